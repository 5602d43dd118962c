-- States that are kept, and gone back to.
use Rattle.std.specs.Prelude.{◌==◌, if◌then◌else◌, map}
use Rattle.std.proofs.Common.{◌≡◌, ◌∙◌, ◌≤◌, ◌<◌, ℕ, ◌+◌, ◌-◌, List, [], ◌∷◌, take, length, Option, Some, None, Bool}
use Rattle.std.proofs.Common.{true, false, Result, Ok, refl, ap, sym, subst, arith, nat_lt}
use Rattle.std.proofs.lemmas.Bool.Decides.{nat_tests}
use Rattle.zk_mem.specs.declared.memory.Setup.{Setup}
use Rattle.zk_mem.specs.Map.{MemoryMap}
use Rattle.zk_state.specs.Frames.{Frame, FrameList, bounds_of, with_frames}
use Rattle.zk_code.specs.declared.instr.Instr.{Instr}
use Rattle.zk_save.specs.States.{WholeState, KeptState, UndoStates, whole_state, AreOf, gone_back, memory_back}
use Rattle.zk_save.specs.States.{state_of, states_in}
use Rattle.zk_state.specs.declared.refusal.Refusal.{Refusal}
use Rattle.zk_step.specs.declared.state.ending.Request.TheVariants.{RestoreUndo, SaveUndo}
use Rattle.zk_step.specs.declared.state.game_state.GameState.{GameState}
use Rattle.zk_step.specs.Inputs.{result_answered}
use Rattle.zk_step.specs.Laws.{fixed_parts}
use Rattle.zk_step.specs.Limited.{limited_pc}
use Rattle.zk_step.specs.Resuming.{resumed}
use Rattle.zk_step.proofs.Sweep.{answers_leave_stories}
use Rattle.zk_vm.specs.declared.machine.Machine.TheInside.{Inside}
use Rattle.zk_vm.specs.declared.stop.Stop.{Stop}
use Rattle.zk_vm.specs.Going.{verdict_by, pc_by, steps_by, stopped_by, Settles}
use Rattle.zk_vm.specs.Halts.{Halt, halt_by}
use Rattle.zk_vm.specs.Sessions.{Session}
use Rattle.zk_vm.specs.Sound.{state_seen, IsOfStory, IsSound}
use Rattle.zk_vm.specs.Step.{Step, asked, back_to, goes_to, kept_answer, saved_pc, with_kept}
use Rattle.zk_vm.proofs.Going.{Told, told_on, gone_on}
use Rattle.zk_step.proofs.SameStory.{same_file}
use Rattle.zk_vm.proofs.Sounds.{running, same_setup, back_fixed, story_stays, sound_after}

-- the machine that contracts see
abbrev pub seen : Inside → Session
seen m = record { state = state_seen m; limits = m.limits; waiting = m.waiting; stopped = m.stopped; left = None }

-- a machine after an instruction that was finished
abbrev pub behind : Inside → GameState → ℕ → ℕ → Option Stop → UndoStates → Inside
behind m w pc steps stopped undo = record m { game = w; pc = pc; steps = steps; stopped = stopped; undo = undo }

pub same_states : (m : MemoryMap) (n : MemoryMap) (u : UndoStates) → fixed_parts n ≡ fixed_parts m
    → states_in n.file u ≡ states_in m.file u
same_states m n u e = ap (λ (file : List ℕ). states_in file u) (same_file m n e)

-- the memory of a story tells it how many states are kept
most_told : (m : Inside) → IsOfStory m → m.game.memory.setup.undo_states ≡ m.limits.undo
most_told m has = ap (λ (s : Setup). s.undo_states) has.memory

-- it is sound where the states are those of the story
pub sound_behind : (m : Inside) (w v : GameState) (pc steps : ℕ) (stopped : Option Stop) (undo : UndoStates)
    (led : Result ℕ Refusal) → IsSound m → m.stopped ≡ None → m.waiting ≡ None → m.steps < m.limits.steps
    → undo.most ≡ m.undo.most → AreOf v.memory v.frames undo → fixed_parts v.memory ≡ fixed_parts m.game.memory
    → bounds_of v.frames ≡ bounds_of m.game.frames → bounds_of w.frames ≡ bounds_of v.frames
    → steps ≡ steps_by m.steps led → stopped ≡ stopped_by m.stopped (verdict_by m.pc led)
    → ((n : ℕ) → led ≡ Ok n → fixed_parts w.memory ≡ fixed_parts v.memory)
    → IsSound (behind m w pc steps stopped undo)
sound_behind m w v pc steps stopped undo led is runs free room most are here same bounds counts stops fixed =
    let has = running m.stopped (IsOfStory m) runs is.story in
    sound_after m (behind m w pc steps stopped undo) m.pc led is room refl free counts refl most (bounds ∙ same) stops
    (λ n e. story_stays (behind m w pc steps stopped undo) v are (same_setup m.game.memory v.memory here
    ∙ has.memory) (rw here has.cache) (fixed n e) bounds)

settles_as : (old new : Session) (answer : Result (Unit {0}) Halt) (x y : Step) → x ≡ y → Settles old new answer y
    → Settles old new answer x
settles_as old new answer x y e h = subst (λ (z : Step). Settles old new answer z) (sym e) h

-- ---- no state is kept

no_states : (file : List ℕ) (u : UndoStates) → length u.states ≤ 0 → states_in file u ≡ []
unfolding states_in
no_states file u few = go u.states few
  where
    go : (ks : List KeptState) → length ks ≤ 0 → map (whole_state file) ks ≡ []
    go [] few = refl
    go (k ∷ ks) few = absurd (omega (arith, few))

pub none_kept : (m : Inside) (i : Instr) (led : Result ℕ Refusal) (w : GameState) (pc steps : ℕ)
    (stopped : Option Stop) (answer : Result (Unit {0}) Halt) → IsSound m → m.stopped ≡ None → m.waiting ≡ None
    → m.steps < m.limits.steps
    → m.limits.undo ≡ 0 → length m.undo.states ≤ m.undo.most
    → Told led (limited_pc (result_answered m.game i 65535 true)) w → bounds_of w.frames ≡ bounds_of m.game.frames
    → answer ≡ halt_by (verdict_by m.pc led) → pc ≡ pc_by m.pc led → steps ≡ steps_by m.steps led
    → stopped ≡ stopped_by m.stopped (verdict_by m.pc led)
    → IsSound (behind m w pc steps stopped m.undo) × Settles (seen m) (seen (behind m w pc steps stopped m.undo))
    answer (asked (state_seen m) i m.game SaveUndo)
none_kept m i led w pc steps stopped answer is runs free room none few told bounds tells at counts stops =
    let has = running m.stopped (IsOfStory m) runs is.story in
    let fixed : (n : ℕ) → result_answered m.game i 65535 true ≡ Ok (w, n)
    → fixed_parts w.memory ≡ fixed_parts m.game.memory
    = (λ n e. answers_leave_stories.result m.game i 65535 true (w, n) e) in
    let most : m.game.memory.setup.undo_states ≡ 0 = most_told m has ∙ none in
    let none_left : length m.undo.states ≤ 0 = omega (arith, few, is.most, none) in (
      sound_behind m w m.game pc steps stopped m.undo led is runs free room refl has.are_of refl refl bounds
          counts stops (told_on led (result_answered m.game i 65535 true) w told fixed),
      settles_as (seen m) (seen (behind m w pc steps stopped m.undo)) answer
          (asked (state_seen m) i m.game SaveUndo) (goes_to (state_seen m) [] (result_answered m.game i 65535 true))
          (ap (λ (k : ℕ). goes_to (state_seen m)
          (take k (state_of m.game.memory m.game.frames (saved_pc (state_seen m) i) ∷ (state_seen m).undo))
          (result_answered m.game i (kept_answer k) true)) most)
          (gone_on (seen m) [] (states_in w.memory.file m.undo) (result_answered m.game i 65535 true) led w pc
          steps stopped answer free told tells at counts stops (λ n e. no_states w.memory.file m.undo none_left)),
    )

-- ---- a state is kept

by_zero : (k : ℕ) (b : Bool) → (k == 0) ≡ b → (k ≡ 0 → ⊥) → ◌≡◌ {A = ℕ} (if b then 65535 else 1) 1
by_zero k true e h = absurd (h (grind (arith, nat_tests, e)))
by_zero k false e h = refl

pub one_kept : (m : Inside) (i : Instr) (undo : UndoStates) (saved : ℕ) (led : Result ℕ Refusal) (w : GameState)
    (pc steps : ℕ) (stopped : Option Stop) (answer : Result (Unit {0}) Halt) → IsSound m → m.stopped ≡ None
    → m.waiting ≡ None → m.steps < m.limits.steps
    → (m.limits.undo ≡ 0 → ⊥) → saved ≡ (if nat_lt m.game.memory.version 4 then m.pc + 1 else i.next - 1)
    → states_in m.game.memory.file undo ≡ take m.undo.most (state_of m.game.memory m.game.frames saved
    ∷ states_in m.game.memory.file m.undo) → undo.most ≡ m.undo.most
    → (AreOf m.game.memory m.game.frames m.undo → AreOf m.game.memory m.game.frames undo)
    → Told led (limited_pc (result_answered m.game i 1 true)) w → bounds_of w.frames ≡ bounds_of m.game.frames
    → answer ≡ halt_by (verdict_by m.pc led) → pc ≡ pc_by m.pc led → steps ≡ steps_by m.steps led
    → stopped ≡ stopped_by m.stopped (verdict_by m.pc led)
    → IsSound (behind m w pc steps stopped undo) × Settles (seen m) (seen (behind m w pc steps stopped undo))
    answer (asked (state_seen m) i m.game SaveUndo)
one_kept m i undo saved led w pc steps stopped answer is runs free room some where_saved put most are told bounds
    tells at counts stops =
    let has = running m.stopped (IsOfStory m) runs is.story in
    let fixed : (n : ℕ) → result_answered m.game i 1 true ≡ Ok (w, n) → fixed_parts w.memory ≡ fixed_parts m.game.memory
    = (λ n e. answers_leave_stories.result m.game i 1 true (w, n) e) in
    let kept : states_in m.game.memory.file undo ≡ with_kept (state_seen m) i m.game
    =
    put ∙ ap (λ (k : ℕ). take k (state_of m.game.memory m.game.frames saved ∷ states_in m.game.memory.file
    m.undo)) (is.most ∙ sym (most_told m has))
    ∙ ap (λ (p : ℕ). take m.game.memory.setup.undo_states (state_of m.game.memory m.game.frames p
    ∷ states_in m.game.memory.file m.undo)) where_saved in
    let settled = gone_on (seen m) (with_kept (state_seen m) i m.game) (states_in w.memory.file undo)
    (result_answered m.game i 1 true) led w pc steps stopped answer free told tells at counts stops
    (λ n e. same_states m.game.memory w.memory undo (fixed n e) ∙ kept) in (
      sound_behind m w m.game pc steps stopped undo led is runs free room most (are has.are_of) refl refl bounds
          counts stops (told_on led (result_answered m.game i 1 true) w told fixed),
      settles_as (seen m) (seen (behind m w pc steps stopped undo)) answer
          (asked (state_seen m) i m.game SaveUndo) (goes_to (state_seen m) (with_kept (state_seen m) i m.game)
          (result_answered m.game i 1 true))
          (ap (λ (k : ℕ). goes_to (state_seen m) (with_kept (state_seen m) i m.game)
          (result_answered m.game i k true)) (answer_one m.game.memory.setup.undo_states
          (λ e. some (sym (most_told m has) ∙ e)))) settled,
    )
  where
    answer_one : (k : ℕ) → (k ≡ 0 → ⊥) → kept_answer k ≡ 1
    answer_one k h = by_zero k (k == 0) refl h

-- ---- going back

other_frames : (f : FrameList) (fs : List Frame) → bounds_of (with_frames f fs) ≡ bounds_of f
unfolding bounds_of
other_frames f [] = refl
other_frames f (x ∷ fs) = refl

gone_fixed : (ws : List WholeState) (m n : MemoryMap) (f g : FrameList) (p : ℕ) (others : List WholeState)
    → gone_back ws m f ≡ Some (n, g, p, others) → (fixed_parts n ≡ fixed_parts m) × (bounds_of g ≡ bounds_of f)
unfolding gone_back
gone_fixed [] m n f g p others h = absurd cc
gone_fixed (w ∷ ws) m n f g p others h =
    let same : ◌≡◌ {A = MemoryMap × FrameList × ℕ × List WholeState} (
      memory_back w m,
      with_frames f w.frames,
      w.pc,
      ws,
    ) (n, g, p, others) = cc in (
      sym (ap (λ (q : MemoryMap × FrameList × ℕ × List WholeState). fixed_parts q.0) same) ∙ back_fixed w m,
      sym (ap (λ (q : MemoryMap × FrameList × ℕ × List WholeState). bounds_of q.1) same) ∙ other_frames f w.frames,
    )

pub went_back : (m : Inside) (i : Instr) (n : MemoryMap) (g : FrameList) (saved : ℕ) (undo : UndoStates)
    (led : Result ℕ Refusal) (w : GameState) (pc steps : ℕ) (stopped : Option Stop)
    (answer : Result (Unit {0}) Halt) → IsSound m → m.stopped ≡ None → m.waiting ≡ None → m.steps < m.limits.steps
    → gone_back (states_in m.game.memory.file m.undo) m.game.memory m.game.frames ≡ Some
    (n, g, saved, states_in m.game.memory.file undo) → undo.most ≡ m.undo.most → AreOf n g undo
    → Told led (limited_pc (resumed (record m.game { memory = n; frames = g }) saved)) w
    → bounds_of w.frames ≡ bounds_of g
    → answer ≡ halt_by (verdict_by m.pc led) → pc ≡ pc_by m.pc led → steps ≡ steps_by m.steps led
    → stopped ≡ stopped_by m.stopped (verdict_by m.pc led)
    → IsSound (behind m w pc steps stopped undo) × Settles (seen m) (seen (behind m w pc steps stopped undo))
    answer (asked (state_seen m) i m.game RestoreUndo)
went_back m i n g saved undo led w pc steps stopped answer is runs free room gone most are told bounds tells at
    counts stops =
    let v : GameState = record m.game { memory = n; frames = g } in
    let fixed : (x : ℕ) → resumed v saved ≡ Ok (w, x) → fixed_parts w.memory ≡ fixed_parts n
    = (λ x e. answers_leave_stories.back v saved (w, x) e) in
    let back = gone_fixed (states_in m.game.memory.file m.undo) m.game.memory n m.game.frames g saved
    (states_in m.game.memory.file undo) gone in (
      sound_behind m w v pc steps stopped undo led is runs free room most are back.0 back.1 bounds counts stops
          (told_on led (resumed v saved) w told fixed),
      settles_as (seen m) (seen (behind m w pc steps stopped undo)) answer
          (asked (state_seen m) i m.game RestoreUndo) (goes_to (state_seen m) (states_in m.game.memory.file undo)
          (resumed v saved))
          (ap (back_to (state_seen m) i m.game) gone)
          (gone_on (seen m) (states_in m.game.memory.file undo) (states_in w.memory.file undo) (resumed v saved)
          led w pc steps stopped answer free told tells at counts stops
          (λ x e. same_states m.game.memory w.memory undo (fixed x e ∙ back.0))),
    )

stayed : (m : Inside) (i : Instr) (led : Result ℕ Refusal) (w : GameState) (pc steps : ℕ) (stopped : Option Stop)
    (answer : Result (Unit {0}) Halt) → IsSound m → m.stopped ≡ None → m.waiting ≡ None → m.steps < m.limits.steps
    → gone_back (states_in m.game.memory.file m.undo) m.game.memory m.game.frames ≡ None
    → Told led (limited_pc (result_answered m.game i 0 false)) w → bounds_of w.frames ≡ bounds_of m.game.frames
    → answer ≡ halt_by (verdict_by m.pc led) → pc ≡ pc_by m.pc led → steps ≡ steps_by m.steps led
    → stopped ≡ stopped_by m.stopped (verdict_by m.pc led)
    → IsSound (behind m w pc steps stopped m.undo) × Settles (seen m) (seen (behind m w pc steps stopped m.undo))
    answer (asked (state_seen m) i m.game RestoreUndo)
stayed m i led w pc steps stopped answer is runs free room none told bounds tells at counts stops =
    let has = running m.stopped (IsOfStory m) runs is.story in
    let fixed : (n : ℕ) → result_answered m.game i 0 false ≡ Ok (w, n)
    → fixed_parts w.memory ≡ fixed_parts m.game.memory
    = (λ n e. answers_leave_stories.result m.game i 0 false (w, n) e) in (
      sound_behind m w m.game pc steps stopped m.undo led is runs free room refl has.are_of refl refl bounds
          counts stops (told_on led (result_answered m.game i 0 false) w told fixed),
      settles_as (seen m) (seen (behind m w pc steps stopped m.undo)) answer
          (asked (state_seen m) i m.game RestoreUndo) (goes_to (state_seen m) (state_seen m).undo
          (result_answered m.game i 0 false))
          (ap (back_to (state_seen m) i m.game) none)
          (gone_on (seen m) (states_in m.game.memory.file m.undo) (states_in w.memory.file m.undo)
          (result_answered m.game i 0 false) led w pc steps stopped answer free told tells at counts stops
          (λ n e. same_states m.game.memory w.memory m.undo (fixed n e))),
    )

pub stays : (m : Inside) (i : Instr) (n : MemoryMap) (g : FrameList) (undo : UndoStates) (led : Result ℕ Refusal)
    (w : GameState) (pc steps : ℕ) (stopped : Option Stop) (answer : Result (Unit {0}) Halt) → IsSound m
    → m.stopped ≡ None → m.waiting ≡ None → m.steps < m.limits.steps
    → gone_back (states_in m.game.memory.file m.undo) m.game.memory m.game.frames ≡ None → undo ≡ m.undo
    → n ≡ m.game.memory → g ≡ m.game.frames
    → Told led (limited_pc (result_answered (record m.game { memory = n; frames = g }) i 0 false)) w
    → bounds_of w.frames ≡ bounds_of g
    → answer ≡ halt_by (verdict_by m.pc led) → pc ≡ pc_by m.pc led → steps ≡ steps_by m.steps led
    → stopped ≡ stopped_by m.stopped (verdict_by m.pc led)
    → IsSound (behind m w pc steps stopped undo) × Settles (seen m) (seen (behind m w pc steps stopped undo))
    answer (asked (state_seen m) i m.game RestoreUndo)
stays m i n g undo led w pc steps stopped answer is runs free room none same memory frames told bounds tells at
    counts stops =
    let here : Told led (limited_pc (result_answered m.game i 0 false)) w
    =
    subst (λ (p : MemoryMap × FrameList). Told led
    (limited_pc (result_answered (record m.game { memory = p.0; frames = p.1 }) i 0 false)) w)
    (pair memory frames) told in
    subst (λ (u : UndoStates). IsSound (behind m w pc steps stopped u) × Settles (seen m)
    (seen (behind m w pc steps stopped u)) answer (asked (state_seen m) i m.game RestoreUndo)) (sym same)
    (stayed m i led w pc steps stopped answer is runs free room none here (bounds ∙ ap bounds_of frames) tells at
    counts stops)
  where
    pair : {a b : MemoryMap} {c d : FrameList} → a ≡ b → c ≡ d → ◌≡◌ {A = MemoryMap × FrameList} (a, c) (b, d)
    pair e h = cc
