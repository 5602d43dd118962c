-- Steps that are made in silence, by instructions that were decoded before.
use Rattle.std.proofs.Common.{◌≡◌, ◌∙◌, ◌≤◌, ◌<◌, ℕ, zero, suc, ◌+◌, ◌-◌, List, length, append-nil, Some, None, Result}
use Rattle.std.proofs.Common.{Ok, Err, refl, ap, sym, subst, arith}
use Rattle.zk_state.specs.declared.refusal.Refusal.{Refusal}
use Rattle.zk_state.specs.Frames.{FrameList, bounds_of}
use Rattle.zk_save.specs.States.{AreOf, UndoStates, WholeState}
use Rattle.zk_code.specs.declared.instr.Instr.{Instr}
use Rattle.zk_step.specs.declared.state.ending.Next.{Next}
use Rattle.zk_step.specs.declared.state.ending.Next.TheVariants.{At}
use Rattle.zk_step.specs.Limited.{limited_move}
use Rattle.zk_step.specs.Laws.{fixed_parts}
use Rattle.zk_fast.specs.Caches.{IsCacheOf}
use Rattle.zk_step.specs.declared.state.game_state.GameState.{GameState}
use Rattle.zk_step.specs.Instructions.{carried_out}
use Rattle.zk_step.specs.Routing.{Signals, no_signals}
use Rattle.zk_fast.specs.QuietSteps.{AreNoted, GoesBy, IsRefused, IsRefusedAfter, IsQuietStep, QuietSteps}
use Rattle.zk_fast.specs.QuietSteps.GoesBy.{nowhere, along}
use Rattle.zk_fast.specs.QuietSteps.QuietSteps.{none, more}
use Rattle.zk_vm.specs.Bounds.{setup_of}
use Rattle.zk_vm.specs.declared.limits.Limits.{Limits}
use Rattle.zk_vm.specs.declared.machine.Machine.TheInside.{Inside}
use Rattle.zk_vm.specs.Going.{GoesAhead, IsAhead, StopsAhead, after_steps, stop_by}
use Rattle.zk_vm.specs.Halts.{Halt}
use Rattle.zk_vm.specs.Sessions.{Session}
use Rattle.zk_vm.specs.Step.{State, verdict_within, step, state_after, text_of, text_within, verdict_of}
use Rattle.zk_vm.specs.Step.Verdict.{GoesOn, StopsBy}
use Rattle.zk_vm.specs.Sound.{IsOfStory, IsSound, state_seen}
use Rattle.zk_vm.proofs.Advancing.{at_step, carried_fixed, err_step, fetched_is}
use Rattle.zk_vm.proofs.Keeping.{same_states, seen}
use Rattle.zk_vm.proofs.Sounds.{running, sound_now, story_stays}

-- a steps is a step that goes on in silence
pub record IsSilentStep (s : State) (v : GameState) (q : ℕ) : Type 0 where
  pub after : state_after s (step s) ≡ record s { game = v; pc = q; steps = s.steps + 1 }
  pub goes : verdict_of s (step s) ≡ GoesOn
  pub shows : text_of s (step s) ≡ no_signals

pub silent_step : (s : State) (v : GameState) (q : ℕ) → IsQuietStep s.game s.pc v q → IsSilentStep s v q
silent_step s v q quiet =
    let at = at_step s quiet.instruction v q no_signals quiet.fetched quiet.carried in
    record {
      after = ap (state_after s) at.0;
      goes = ap (verdict_of s) at.0 ∙ ap (verdict_within s.pc) at.1.1;
      shows = ap (text_of s) at.0 ∙ ap (λ (r : Result FrameList Refusal). text_within r no_signals) at.1.1;
    }

pub none_behind : (s : State) → after_steps s zero s.game s.pc ≡ s
none_behind s =
    let e : s.steps + zero ≡ s.steps = omega arith in ap (λ (n : ℕ). let t : State = record s { steps = n } in t) e

pub more_behind : (s : State) (v end : GameState) (q last n : ℕ)
    → after_steps (record s { game = v; pc = q; steps = s.steps + 1 }) n end last ≡ after_steps s (suc n) end last
more_behind s v end q last n =
    let e : s.steps + 1 + n ≡ s.steps + suc n = omega arith in
    ap (λ (k : ℕ). let t : State = record s { game = end; pc = last; steps = k } in t) e

-- an instruction that is refused after them
pub refused_step : (s : State) (r : Refusal) → IsRefused s.game s.pc r
    → (verdict_of s (step s) ≡ StopsBy (stop_by s.pc r)) × (text_of s (step s) ≡ no_signals)
refused_step s r refused =
    let parts = err_step s refused.instruction (carried_out s.game refused.instruction) r refused.refused in
    let is = fetched_is s refused.instruction refused.fetched in
    (ap (verdict_of s) is ∙ parts.0, ap (text_of s) is ∙ parts.1)

-- ---- a machine after them

pub steps_fixed : (n : ℕ) (w end : GameState) (pc last : ℕ) → QuietSteps n w pc end last
    → fixed_parts end.memory ≡ fixed_parts w.memory
steps_fixed _ _ _ _ _ none = refl
steps_fixed _ _ _ _ _ (more {n} {w} {v} {end} {pc} {next} {last} quiet rest) =
    steps_fixed n v end next last rest ∙ carried_fixed w quiet.instruction v (At next) no_signals quiet.carried

pub sound_ahead : (m n : Inside) (k : ℕ) → QuietSteps k m.game m.pc n.game n.pc → IsSound m → m.stopped ≡ None
    → n.limits ≡ m.limits → n.waiting ≡ None → n.steps ≤ m.limits.steps → n.reads ≡ m.reads → n.undo ≡ m.undo
    → IsCacheOf (fixed_parts m.game.memory) n.cache
    → bounds_of n.game.frames ≡ bounds_of m.game.frames → IsSound n
sound_ahead m n k quiet_steps is runs limits free steps reads undo cache bounds =
    let has = running m.stopped (IsOfStory m) runs is.story in
    let are = subst (λ (u : UndoStates). AreOf m.game.memory m.game.frames u) (sym undo) has.are_of in
    sound_now m n is limits free steps (rw reads is.reads) (ap (λ (u : UndoStates). u.most) undo) bounds
    (λ e. story_stays n m.game are (has.memory ∙ ap (λ (l : Limits). setup_of l) (sym limits)) cache
    (steps_fixed k m.game n.game m.pc n.pc quiet_steps) bounds)

-- ---- where they stand

same_ok : {A B : Type 0} (x y : A) → ◌≡◌ {A = Result A B} (Ok x) (Ok y) → x ≡ y
same_ok x y e = cc

same_goes : (v u : GameState) (a b : ℕ) → ◌≡◌ {A = GameState × (Next × Signals)} (v, (At a, no_signals))
    (u, (At b, no_signals)) → (v ≡ u) × (a ≡ b)
same_goes v u a b e = (
  ap (λ (x : GameState × (Next × Signals)). x.0) e,
  let at : At a ≡ At
      b = ap (λ (x : GameState × (Next × Signals)). x.1.0) e in cc,
)

same_step : (w v u : GameState) (pc a b : ℕ) → IsQuietStep w pc v a → IsQuietStep w pc u b → (v ≡ u) × (a ≡ b)
same_step w v u pc a b h k =
    let i : h.instruction ≡ k.instruction = same_ok h.instruction k.instruction (sym h.fetched ∙ k.fetched) in
    same_goes v u a b (same_ok _ _ (sym h.carried ∙ ap (λ (x : Instr). limited_move (carried_out w x)) i ∙ k.carried))

none_more : (n : ℕ) (w end : GameState) (pc last : ℕ) → QuietSteps n w pc end last → n ≡ 0 → w ≡ end
none_more _ _ _ _ _ none e = refl
none_more _ _ _ _ _ (more {n} quiet rest) e = absurd (omega (arith, e))

one_more : (n k : ℕ) (w v end : GameState) (pc next last : ℕ) → QuietSteps n w pc end last → n ≡ suc k
    → IsQuietStep w pc v next → QuietSteps k v next end last
one_more _ k _ v _ _ next _ none e own = absurd (omega (arith, e))
one_more _ k _ v _ _ next _ (more {n} {w} {v = u} {end} {pc} {next = at} {last} quiet rest) e own =
    let same = same_step w v u pc next at own quiet in
    let count : n ≡ k = omega (arith, e) in
    rw (← count, same.0, same.1) rest

-- they lead to one state, whether they are counted or told by their addresses
same_end : (places : List ℕ) (w v : GameState) (pc last : ℕ) → GoesBy places w pc v last
    → (n : ℕ) (end : GameState) (there : ℕ) → QuietSteps n w pc end there → n ≡ length places → v ≡ end
same_end _ _ _ _ _ (nowhere {w} {pc}) n end there steps e = none_more n w end pc there steps e
same_end _ _ _ _ _ (along {places} {w} {v = mid} {end = to} {pc} {next} {last} quiet rest) n end there steps e =
    same_end places mid to next last rest (length places) end there
    (one_more n (length places) w mid end pc next there steps e quiet) refl

-- ---- as contracts see them

pub seen_ahead : (Noted : List ℕ → Type 0) (m : Inside) (k : ℕ) (w : GameState) (p : ℕ)
    → QuietSteps k m.game m.pc w p → AreNoted Noted k m.game m.pc w p None
    → GoesAhead Noted (seen m) (seen (record m { game = w; pc = p; steps = m.steps + k }))
seen_ahead Noted m k w p quiet_steps h =
    let same = same_states m.game.memory w.memory m.undo (steps_fixed k m.game w m.pc p quiet_steps) in
    let to : State = record (state_seen m) { game = w; pc = p; steps = m.steps + k } in
    let count : m.steps + k ≡ m.steps + length h.places = ap (λ (n : ℕ). m.steps + n) (sym h.count) in
    record {
      addresses = h.places;
      goes = h.goes;
      there =
          ap (λ (u : List WholeState). let s : Session = record (seen m) { state = record to { undo = u } } in s) same
          ∙ ap (λ (n : ℕ). let s : Session = record (seen m)
          { state = record (state_seen m) { game = w; pc = p; steps = n } } in s) count;
      noted = subst Noted (append-nil h.places) h.noted;
    }

pub seen_stop : (Noted : List ℕ → Type 0) (old new : Session) (answer : Result (Unit {0}) Halt) (k pc : ℕ)
    (w : GameState) (refusal : Refusal) → answer ≡ Err (Err (stop_by pc refusal))
    → k < old.limits.steps - old.state.steps
    → IsRefusedAfter k old.state.game old.state.pc pc refusal → AreNoted Noted k old.state.game old.state.pc w pc
    (Some refusal) → new.waiting ≡ None → IsAhead Noted old new answer
seen_stop Noted old new answer k pc w refusal tells few refused h free =
    let same = same_end h.places old.state.game h.goes.0 old.state.pc pc h.goes.1 k refused.end pc
    refused.quiet_steps (sym h.count) in
    let stops : StopsAhead Noted old new (Err (stop_by pc refusal)) = record {
      addresses = h.places;
      end = refused.end;
      pc = pc;
      goes = subst (λ (v : GameState). GoesBy h.places old.state.game old.state.pc v pc) same h.goes.1;
      few = omega (arith, few, h.count);
      refusal = refusal;
      refused = refused.refused;
      noted = h.noted;
      tells = refl;
      free = free;
    } in
    subst (λ (r : Result (Unit {0}) Halt). IsAhead Noted old new r) (sym tells) stops
