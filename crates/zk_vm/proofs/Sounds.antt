-- What the parts of a machine keep to, step by step.
use Rattle.std.proofs.Common.{◌≡◌, ◌∙◌, ◌≤◌, ◌<◌, ℕ, List, [], ◌∷◌, length, Option, Some, None, Result, Ok, Err, refl}
use Rattle.std.proofs.Common.{ap, arith}
use Rattle.std.specs.Prelude.{map}
use Rattle.zk_mem.specs.declared.memory.Setup.{Setup}
use Rattle.zk_mem.specs.Fresh.{fresh}
use Rattle.zk_mem.specs.Map.{MemoryMap}
use Rattle.zk_mem.specs.Again.{again, settled}
use Rattle.zk_state.specs.declared.refusal.Refusal.{Refusal}
use Rattle.zk_state.specs.Frames.{FrameList, IsBounded, bounds_of, first_frames}
use Rattle.zk_save.specs.States.{WholeState, KeptState, UndoStates, whole_state, AreOf, memory_back, states_in}
use Rattle.zk_save.proofs.Wholes.{same_of}
use Rattle.zk_step.specs.declared.state.game_state.GameState.{GameState}
use Rattle.zk_step.specs.Laws.{fixed_parts}
use Rattle.zk_step.proofs.SameStory.{same_base}
use Rattle.zk_fast.specs.Caches.{IsCacheOf}
use Rattle.zk_vm.specs.Bounds.{setup_of}
use Rattle.zk_vm.specs.declared.machine.Machine.TheInside.{Inside}
use Rattle.zk_vm.specs.declared.stop.Stop.{Stop}
use Rattle.zk_vm.specs.declared.waiting.Waiting.{Waiting}
use Rattle.zk_vm.specs.Going.{verdict_by, steps_by, stopped_by}
use Rattle.zk_vm.specs.Halts.{CanAnswer, WhileRunning}
use Rattle.zk_vm.specs.Laws.{IsWithin}
use Rattle.zk_vm.specs.Sound.{state_seen, IsOfStory, IsSound}

-- a machine without a stop has what a running one has
pub running : (x : Option Stop) (P : Type 0) → x ≡ None → WhileRunning x P → P
running None P e h = h
running (Some stop) P e h = absurd cc

pub while_running : (x : Option Stop) (P : Type 0) → (x ≡ None → P) → WhileRunning x P
while_running None P h = h refl
while_running (Some stop) P h = tt

can_answer_none : (m : Inside) (x : Option Waiting) → x ≡ None → CanAnswer (state_seen m) m.limits m.stopped x
can_answer_none m None e = tt
can_answer_none m (Some w) e = absurd cc

-- ---- the story's parts

pub same_setup : (m n : MemoryMap) → fixed_parts n ≡ fixed_parts m → n.setup ≡ m.setup
unfolding fixed_parts
same_setup m n e = ap (λ (p : (ℕ × ℕ) × (List ℕ × Setup)). p.1.1) e

-- memory that is put back has them too
pub back_fixed : (w : WholeState) (m : MemoryMap) → fixed_parts (memory_back w m) ≡ fixed_parts m
unfolding fixed_parts again settled
back_fixed w m = refl

-- the states to go back to and the instructions that were decoded are those of a machine's story still
pub story_stays : (n : Inside) (v : GameState) → AreOf v.memory v.frames n.undo
    → v.memory.setup ≡ setup_of n.limits → IsCacheOf (fixed_parts v.memory) n.cache
    → fixed_parts n.game.memory ≡ fixed_parts v.memory → bounds_of n.game.frames ≡ bounds_of v.frames → IsOfStory n
story_stays n v are most cache same bounds = record {
  are_of =
      same_of v.memory n.game.memory v.frames n.game.frames n.undo (same_base v.memory n.game.memory same) bounds are;
  memory = same_setup v.memory n.game.memory same ∙ most;
  cache = rw same cache;
}

-- ---- invariants

pub sound_now : (m n : Inside) → IsSound m → n.limits ≡ m.limits → n.waiting ≡ None → n.steps ≤ m.limits.steps
    → n.reads ≤ 16777216 → n.undo.most ≡ m.undo.most
    → bounds_of n.game.frames ≡ bounds_of m.game.frames → (n.stopped ≡ None → IsOfStory n) → IsSound n
sound_now m n is limits free steps reads most bounds story = record {
  steps = rw limits steps;
  bounds = rw limits (bounds ∙ is.bounds);
  reads = reads;
  most = rw limits (most ∙ is.most);
  story = while_running n.stopped (IsOfStory n) story;
  waits = can_answer_none n n.waiting free;
}

few_by : (steps most : ℕ) (led : Result ℕ Refusal) → steps < most → steps_by steps led ≤ most
few_by steps most (Ok p) lt = omega arith
few_by steps most (Err e) lt = omega arith

-- where a run goes on, an instruction was finished
pub going_led : (x before : Option Stop) (pc : ℕ) (led : Result ℕ Refusal) (P : Type 0)
    → x ≡ stopped_by before (verdict_by pc led) → ((n : ℕ) → led ≡ Ok n → P) → x ≡ None → P
going_led x before pc (Ok n) P e h none = h n refl
going_led x before pc (Err r) P e h none = absurd cc

pub sound_after : (m n : Inside) (pc : ℕ) (led : Result ℕ Refusal) → IsSound m → m.steps < m.limits.steps
    → n.limits ≡ m.limits → n.waiting ≡ None → n.steps ≡ steps_by m.steps led → n.reads ≡ m.reads
    → n.undo.most ≡ m.undo.most → bounds_of n.game.frames ≡ bounds_of m.game.frames
    → n.stopped ≡ stopped_by m.stopped (verdict_by pc led) → ((x : ℕ) → led ≡ Ok x → IsOfStory n) → IsSound n
sound_after m n pc led is room limits free steps reads most bounds stopped undo =
    sound_now m n is limits free (rw steps (few_by m.steps m.limits.steps led room)) (rw reads is.reads) most
    bounds (going_led n.stopped m.stopped pc led (IsOfStory n) stopped undo)

-- ---- what a machine is within

counted : (file : List ℕ) (ks : List KeptState) → length (map (whole_state file) ks) ≡ length ks
counted file [] = refl
counted file (k ∷ ks) = let rest = counted file ks in omega (arith, rest)

states_counted : (file : List ℕ) (u : UndoStates) → length (states_in file u) ≡ length u.states
unfolding states_in
states_counted file u = counted file u.states

pub first_bounds : (s : FrameList) (f w : ℕ) → s ≡ first_frames f w → bounds_of s ≡ (f, w)
unfolding bounds_of
first_bounds s f w e = ap bounds_of e

pub within_limits : (m : Inside) → IsSound m → length m.undo.states ≤ m.undo.most → IsBounded m.game.frames
    → IsWithin m.limits (state_seen m)
unfolding bounds_of
within_limits m sound few is =
    let f : m.game.frames.most_frames ≡ m.limits.frames = ap (λ (p : ℕ × ℕ). p.0) sound.bounds in
    let w : m.game.frames.most_words ≡ m.limits.words = ap (λ (p : ℕ × ℕ). p.1) sound.bounds in
    let n = states_counted m.game.memory.file m.undo in
    record {
      frames = omega (arith, is.frames, f);
      words = omega (arith, is.words, w);
      steps = sound.steps;
      reads = sound.reads;
      undo = omega (arith, n, few, sound.most);
    }

pub first_setup : (story : List ℕ) (setup : Setup) → (fresh story setup).setup ≡ setup
unfolding fresh
first_setup story setup = refl
