-- Where a machine goes on, and how it is left.
use Rattle.std.specs.Prelude.{MatchResult}
use Rattle.std.proofs.Common.{◌≡◌, ◌∙◌, ℕ, ◌+◌, List, Option, Some, None, Result, Ok, Err, refl, ap, sym, subst}
use Rattle.zk_mem.specs.declared.fault.Fault.{Fault}
use Rattle.zk_state.specs.declared.refusal.Limit.{Limit}
use Rattle.zk_state.specs.declared.refusal.Refusal.{Refusal}
use Rattle.zk_state.specs.declared.refusal.Refusal.TheVariants as refusal
use Rattle.zk_state.specs.Frames.{FrameList, within_bounds}
use Rattle.zk_save.specs.States.{WholeState}
use Rattle.zk_step.specs.declared.state.game_state.GameState.{GameState}
use Rattle.zk_step.specs.Limited.{kept, limited_pc}
use Rattle.zk_step.specs.Routing.{no_signals}
use Rattle.zk_vm.specs.declared.stop.Stop.{Stop}
use Rattle.zk_vm.specs.declared.stop.Stop.TheVariants as stop
use Rattle.zk_vm.specs.declared.waiting.Waiting.{Waiting}
use Rattle.zk_vm.specs.Answers.{Answer, answered, answer_settled}
use Rattle.zk_vm.specs.Going.{stop_by, verdict_by, pc_by, steps_by, stopped_by, IsPut, Settles}
use Rattle.zk_vm.specs.Halts.{Halt, IsLeftAs, halt_by}
use Rattle.zk_vm.specs.Sessions.{Session, given, given_to, resumed}
use Rattle.zk_vm.specs.Step.{State, Step, Verdict, verdict_within, goes_to, step_by, verdict_of, state_after}
use Rattle.zk_vm.specs.Step.Step.{Goes, Exceeds}
use Rattle.zk_vm.specs.Step.Verdict.{GoesOn, WaitsFor, StopsBy}
use Rattle.zk_step.proofs.WithinBounds.{pc_is}

-- where an instruction leads that was finished, as the code tells it
abbrev pub Told : Result ℕ Refusal → Result (GameState × ℕ) Refusal → GameState → Type 0
Told led r w = MatchResult led (λ p. r ≡ Ok (w, p)) (λ e. r ≡ Err e)

pub told_on : {P : Type 0} (led : Result ℕ Refusal) (r : Result (GameState × ℕ) Fault) (w : GameState)
    → Told led (limited_pc r) w → ((p : ℕ) → r ≡ Ok (w, p) → P) → (p : ℕ) → led ≡ Ok p → P
told_on {P} (Ok p) r w told h q e = h p (pc_is r (w, p) told)
told_on {P} (Err f) r w told h q e = absurd cc

pub stops_by : (pc : ℕ) (e : Refusal) → verdict_within pc (Err e) ≡ StopsBy (stop_by pc e)
stops_by pc (refusal.Fault f) = refl
stops_by pc (refusal.Limit l) = refl

-- a step in silence goes on in a state that has the game state which was left
abbrev goes_in : (GameState × ℕ → State) → GameState × ℕ → Step
goes_in next x = Goes (next x) no_signals

within_told : (pc : ℕ) (x : GameState × ℕ) (q : Result FrameList Refusal) (led : Result ℕ Refusal) (w : GameState)
    → Told led (kept {B = GameState × ℕ} q x) w → verdict_within pc q ≡ verdict_by pc led
within_told pc x (Ok u) (Ok p) w told = refl
within_told pc x (Ok u) (Err e) w told = absurd cc
within_told pc x (Err d) (Ok p) w told = absurd cc
within_told pc x (Err d) (Err e) w told =
    let is : d ≡ e = cc in stops_by pc d ∙ ap (λ (r : Refusal). StopsBy (stop_by pc r)) is

fault_told : (pc : ℕ) (f : Fault) (led : Result ℕ Refusal) (w : GameState) → Told led (Err (refusal.Fault f)) w
    → StopsBy (stop.Fault pc f) ≡ verdict_by pc led
fault_told pc f (Ok p) w told = absurd cc
fault_told pc f (Err e) w told = let is : refusal.Fault f ≡ e = cc in ap (λ (r : Refusal). StopsBy (stop_by pc r)) is

verdict_told : (s : State) (next : GameState × ℕ → State) → ((x : GameState × ℕ) → (next x).game ≡ x.0)
    → (r : Result (GameState × ℕ) Fault) (led : Result ℕ Refusal) (w : GameState) → Told led (limited_pc r) w
    → verdict_of s (step_by (goes_in next) r) ≡ verdict_by s.pc led
verdict_told s next same (Ok x) led w told =
    ap (λ (v : GameState). verdict_within s.pc (within_bounds v.frames)) (same x)
    ∙ within_told s.pc x (within_bounds x.0.frames) led w told
verdict_told s next same (Err f) led w told = fault_told s.pc f led w told

-- how a machine is put
put_by : (old new : Session) (next : GameState × ℕ → State) (r : Result (GameState × ℕ) Fault)
    (led : Result ℕ Refusal) (w : GameState) → Told led (limited_pc r) w
    → ((p : ℕ) → led ≡ Ok p → r ≡ Ok (w, p) → new ≡ record old { state = next (w, p) })
    → new.stopped ≡ stopped_by old.stopped (verdict_by old.state.pc led) → new.waiting ≡ None
    → new.limits ≡ old.limits
    → IsPut old new (verdict_by old.state.pc led) (state_after old.state (step_by (goes_in next) r))
put_by old new next r (Ok p) w told on stopped free limits = let is = pc_is r (w, p) told in rw is (on p refl is)
put_by old new next r (Err e) w told on stopped free limits = (stopped, free, limits)

-- ---- a step

abbrev gone_state : State → List WholeState → GameState × ℕ → State
gone_state s undo x = record s { game = x.0; pc = x.1; steps = s.steps + 1; undo = undo }

-- a machine with other parts
abbrev pub going : Session → GameState → ℕ → ℕ → List WholeState → Option Stop → Session
going old w pc steps undo stopped =
    record old { state = record old.state { game = w; pc = pc; steps = steps; undo = undo }; stopped = stopped }

went : (old : Session) (w : GameState) (pc steps : ℕ) (undo undo' : List WholeState) (stopped : Option Stop)
    (p : ℕ) → pc ≡ p → steps ≡ old.state.steps + 1 → stopped ≡ old.stopped → undo' ≡ undo
    → going old w pc steps undo' stopped ≡ record old { state = gone_state old.state undo (w, p) }
went old w pc steps undo undo' stopped p at counts stops same = cc

pub gone_on : (old : Session) (undo undo' : List WholeState) (r : Result (GameState × ℕ) Fault)
    (led : Result ℕ Refusal) (w : GameState) (pc steps : ℕ) (stopped : Option Stop)
    (answer : Result (Unit {0}) Halt) → old.waiting ≡ None
    → Told led (limited_pc r) w → answer ≡ halt_by (verdict_by old.state.pc led) → pc ≡ pc_by old.state.pc led
    → steps ≡ steps_by old.state.steps led → stopped ≡ stopped_by old.stopped (verdict_by old.state.pc led)
    → ((n : ℕ) → r ≡ Ok (w, n) → undo' ≡ undo) → Settles old (going old w pc steps undo' stopped) answer
    (goes_to old.state undo r)
gone_on old undo undo' r led w pc steps stopped answer free told tells at counts stops same =
    let verdict = verdict_told old.state (gone_state old.state undo) (λ x. refl) r led w told in
    let on : (p : ℕ) → led ≡ Ok p → r ≡ Ok (w, p) → going old w pc steps undo' stopped ≡ record old
    { state = gone_state old.state undo (w, p) }
    =
    (λ p e is. went old w pc steps undo undo' stopped p (at ∙ ap (pc_by old.state.pc) e)
    (counts ∙ ap (steps_by old.state.steps) e)
    (stops ∙ ap (λ (l : Result ℕ Refusal). stopped_by old.stopped (verdict_by old.state.pc l)) e) (same p is)) in
    let put = put_by old (going old w pc steps undo' stopped) (gone_state old.state undo) r led w told on stops
    free refl in
    record { tells = rw verdict tells; put = rw verdict put }

-- ---- an answer

no_wait : (w : Waiting) (pc : ℕ) (led : Result ℕ Refusal) → WaitsFor w ≡ verdict_by pc led → ⊥
no_wait w pc (Ok p) e = absurd cc
no_wait w pc (Err r) e = absurd cc

resumed_left : (old new : Session) (pc : ℕ) (led : Result ℕ Refusal) (v : Verdict) (t : State)
    → v ≡ verdict_by pc led → old.stopped ≡ None → IsPut (record old { waiting = None }) new v t
    → IsLeftAs new (resumed old v t) (resumed old v t).stopped
resumed_left old new pc led GoesOn t e runs put =
    subst (λ (x : Option Stop). IsLeftAs new (resumed old GoesOn t) x) (sym runs) put
resumed_left old new pc led (WaitsFor w) t e runs put = absurd (no_wait w pc led e)
resumed_left old new pc led (StopsBy stop) t e runs put = put

given_by : (y : Option Waiting) (old new : Session) (w : Waiting) (a : Answer) (x : Step) (led : Result ℕ Refusal)
    → y ≡ Some w → old.stopped ≡ None → answered old.state w a ≡ x
    → verdict_of old.state x ≡ verdict_by old.state.pc led
    → IsPut (record old { waiting = None }) new (verdict_by old.state.pc led) (state_after old.state x)
    → IsLeftAs new (given_to y old a) (given_to y old a).stopped
given_by None old new w a x led waits runs is verdict put = absurd cc
given_by (Some v) old new w a x led waits runs is verdict put =
    let same : v ≡ w = cc in
    let there : answered old.state v a ≡ x = ap (λ (u : Waiting). answered old.state u a) same ∙ is in
    let put' : IsPut (record old { waiting = None }) new (verdict_of old.state x)
    (state_after old.state x) = rw verdict put in
    rw there (resumed_left old new old.state.pc led (verdict_of old.state x) (state_after old.state x)
    verdict runs put')

given_left : (old new : Session) (w : Waiting) (a : Answer) (x : Step) (led : Result ℕ Refusal)
    → old.waiting ≡ Some w → old.stopped ≡ None → answered old.state w a ≡ x
    → verdict_of old.state x ≡ verdict_by old.state.pc led
    → IsPut (record old { waiting = None }) new (verdict_by old.state.pc led) (state_after old.state x)
    → IsLeftAs new (given old a) (given old a).stopped
unfolding given
given_left old new w a x led waits runs is verdict put =
    given_by old.waiting old new w a x led waits runs is verdict put

-- the answer to what asks for a saved game
pub file_answered : (old : Session) (waiting : Waiting) (a : Answer) (undo' : List WholeState)
    (r : Result (GameState × ℕ) Fault) (led : Result ℕ Refusal) (w : GameState) (pc steps : ℕ) (stopped : Option Stop)
    → old.waiting ≡ Some waiting → old.stopped ≡ None → answered old.state waiting a ≡ goes_to old.state
    old.state.undo r → Told led (limited_pc r) w
    → pc ≡ pc_by old.state.pc led → steps ≡ steps_by old.state.steps led
    → stopped ≡ stopped_by old.stopped (verdict_by old.state.pc led)
    → ((n : ℕ) → r ≡ Ok (w, n) → undo' ≡ old.state.undo)
    → IsLeftAs (going (record old { waiting = None }) w pc steps undo' stopped) (given old a) (given old a).stopped
file_answered old waiting a undo' r led w pc steps stopped waits runs is told at counts stops same =
    let verdict = verdict_told old.state (gone_state old.state old.state.undo) (λ x. refl) r led w told in
    let free = record old { waiting = None } in
    let on : (p : ℕ) → led ≡ Ok p → r ≡ Ok (w, p) → going free w pc steps undo' stopped ≡ record free
    { state = gone_state old.state old.state.undo (w, p) }
    =
    (λ p e here. went free w pc steps old.state.undo undo' stopped p (at ∙ ap (pc_by old.state.pc) e)
    (counts ∙ ap (steps_by old.state.steps) e)
    (stops ∙ ap (λ (l : Result ℕ Refusal). stopped_by old.stopped (verdict_by old.state.pc l)) e)
    (same p here)) in
    let put = put_by free (going free w pc steps undo' stopped) (gone_state old.state old.state.undo) r led w told
    on stops refl refl in
    given_left old (going free w pc steps undo' stopped) waiting a
    (step_by (goes_in (gone_state old.state old.state.undo)) r) led waits runs is verdict put

-- an answer that restores too many frames or words
limit_put : (old new : Session) (l : Limit) (led : Result ℕ Refusal) (w : GameState)
    → Told led (Err (refusal.Limit l)) w → new.stopped ≡ stopped_by old.stopped (verdict_by old.state.pc led)
    → new.waiting ≡ None → new.limits ≡ old.limits
    → (StopsBy (stop.Limit old.state.pc l) ≡ verdict_by old.state.pc led) × IsPut (record old { waiting = None })
    new (verdict_by old.state.pc led) old.state
limit_put old new l (Ok n) w told stops free limits = absurd cc
limit_put old new l (Err e) w told stops free limits =
    let same : refusal.Limit l ≡ e = cc in
    (ap (λ (x : Refusal). StopsBy (stop_by old.state.pc x)) same, (stops, free, limits))

pub limit_answered : (old : Session) (waiting : Waiting) (a : Answer) (l : Limit) (undo' : List WholeState)
    (led : Result ℕ Refusal) (w : GameState) (pc steps : ℕ) (stopped : Option Stop)
    → old.waiting ≡ Some waiting → old.stopped ≡ None → answered old.state waiting a ≡ Exceeds l
    → Told led (Err (refusal.Limit l)) w
    → pc ≡ pc_by old.state.pc led → steps ≡ steps_by old.state.steps led
    → stopped ≡ stopped_by old.stopped (verdict_by old.state.pc led)
    → IsLeftAs (going (record old { waiting = None }) w pc steps undo' stopped) (given old a) (given old a).stopped
limit_answered old waiting a l undo' led w pc steps stopped waits runs is told at counts stops =
    let both = limit_put old (going (record old { waiting = None }) w pc steps undo' stopped) l led w told stops
    refl refl in
    given_left old (going (record old { waiting = None }) w pc steps undo' stopped) waiting a (Exceeds l) led
    waits runs is both.0 both.1

-- ---- the answer to a read

abbrev read_state : State → List ℕ → GameState × ℕ → State
read_state s due x = record s { game = x.0; pc = x.1; steps = 0; reads = s.reads + 1; due = due }

-- a machine with other parts, once a read was answered
abbrev pub reading : Session → GameState → ℕ → List ℕ → List WholeState → Option Stop → Session
reading old w pc due undo stopped =
    record old {
      state = record old.state {
        game = w;
        pc = pc;
        steps = 0;
        reads = old.state.reads + 1;
        due = due;
        undo = undo;
      };
      waiting = None;
      stopped = stopped;
    }

read_went : (old : Session) (w : GameState) (pc : ℕ) (due : List ℕ) (undo : List WholeState)
    (stopped : Option Stop) (p : ℕ) → pc ≡ p → stopped ≡ old.stopped → undo ≡ old.state.undo
    → reading old w pc due undo stopped ≡ record old { state = read_state old.state due (w, p); waiting = None }
read_went old w pc due undo stopped p at stops same = cc

pub read_answered : (old : Session) (waiting : Waiting) (a : Answer) (due : List ℕ) (undo : List WholeState)
    (r : Result (GameState × ℕ) Fault) (led : Result ℕ Refusal) (w : GameState) (pc : ℕ) (stopped : Option Stop)
    → old.waiting ≡ Some waiting → old.stopped ≡ None → answered old.state waiting a ≡ answer_settled old.state
    due r → Told led (limited_pc r) w
    → pc ≡ pc_by old.state.pc led → stopped ≡ stopped_by old.stopped (verdict_by old.state.pc led)
    → ((n : ℕ) → r ≡ Ok (w, n) → undo ≡ old.state.undo)
    → IsLeftAs (reading old w pc due undo stopped) (given old a) (given old a).stopped
read_answered old waiting a due undo r led w pc stopped waits runs is told at stops same =
    let verdict = verdict_told old.state (read_state old.state due) (λ x. refl) r led w told in
    let free = record old { waiting = None } in
    let on : (p : ℕ) → led ≡ Ok p → r ≡ Ok (w, p) → reading old w pc due undo stopped ≡ record free
    { state = read_state old.state due (w, p) }
    =
    (λ p e here. read_went old w pc due undo stopped p (at ∙ ap (pc_by old.state.pc) e)
    (stops ∙ ap (λ (l : Result ℕ Refusal). stopped_by old.stopped (verdict_by old.state.pc l)) e)
    (same p here)) in
    let put = put_by free (reading old w pc due undo stopped) (read_state old.state due) r led w told on stops
    refl refl in
    given_left old (reading old w pc due undo stopped) waiting a (step_by (goes_in (read_state old.state due)) r)
    led waits runs is verdict put
