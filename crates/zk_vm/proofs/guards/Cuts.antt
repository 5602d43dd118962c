-- Machines that stop by a limit, after some moves.
use Rattle.std.proofs.Common.{◌≡◌, ◌∙◌, ◌-◌, ℕ, suc, List, [], ◌∷◌, ◌++◌, Option, Some, None, refl, ap, arith}
use Rattle.zk_state.specs.declared.refusal.Limit.{Limit}
use Rattle.zk_state.specs.declared.refusal.Limit.TheVariants.{Steps}
use Rattle.zk_step.specs.Routing.{Signals, no_signals}
use Rattle.zk_vm.specs.declared.stop.Stop.{Stop}
use Rattle.zk_vm.specs.declared.stop.Stop.TheVariants.{Limit as LimitAt}
use Rattle.zk_vm.specs.declared.waiting.Waiting.{Waiting}
use Rattle.zk_vm.specs.Answers.{Answer, answered}
use Rattle.zk_vm.specs.Laws.{LimitsCutRuns, Passes, last_told}
use Rattle.zk_vm.specs.Sessions.{Session, resumed, with_stop}
use Rattle.zk_vm.specs.Step.{State, Step, Verdict, state_after, step, text_of, verdict_of}
use Rattle.zk_vm.specs.Step.Step.{Goes as GoesTo, Waits, Quits, Faults, Exceeds}
use Rattle.zk_vm.specs.Step.Verdict.{StopsBy}
use Rattle.zk_vm.specs.Log.{Entry, Passed, address_told, after, heard_by, moved_by, stepped, stepped_to, stop_told}
use Rattle.zk_vm.specs.Log.{text_left, told}
use Rattle.zk_vm.specs.Log.Entry.{At, Stopped}
use Rattle.zk_vm.specs.Log.Move.{Gets, Goes}
use Rattle.zk_vm.proofs.Moves.{moved_gets, moved_steps, passed_last, passed_on}

-- what passes a limit stops a machine there, and shows nothing
passes_stops : (l : Limit) (s : State) (x : Step) → Passes l s x → (verdict_of s x ≡ StopsBy (LimitAt s.pc l))
    × (text_of s x ≡ no_signals)
passes_stops l s (GoesTo t text) h = rw h (refl, refl)
passes_stops l s (Waits t waiting text) h = rw (h.1, h.0) (refl, refl)
passes_stops l s Quits h = absurd h
passes_stops l s (Faults f) h = absurd h
passes_stops l s (Exceeds m) h = rw h (refl, refl)

-- a step that does
stops_told : (left : Option Signals) (s : State) (l : List Entry) → text_of s (step s) ≡ no_signals
    → address_told left s.pc ++ (told (text_left left s) ++ l) ≡ last_told left s.pc ++ l
stops_told None s l e = ap (λ (t : Signals). At s.pc ∷ told t ++ l) e
stops_told (Some t) s l e = refl

step_stops : (s : Session) (n : ℕ) (l : Limit) → Passes l s.state (step s.state)
    → (stepped (suc n) s).entries ≡ last_told s.left s.state.pc ++ Stopped (LimitAt s.state.pc l) ∷ []
    × ((stepped (suc n) s).to.stopped ≡ Some (LimitAt s.state.pc l))
step_stops s n l h =
    let stops = passes_stops l s.state (step s.state) h in
    let is : stepped (suc n) s ≡ stepped_to s (StopsBy (LimitAt s.state.pc l))
    (state_after s.state (step s.state)) (text_left s.left s.state) =
    ap (λ (v : Verdict). stepped_to s v (state_after s.state (step s.state)) (text_left s.left s.state)) stops.0 in (
      ap (λ (p : Passed). p.entries) is ∙ stops_told s.left s.state (Stopped (LimitAt s.state.pc l) ∷ []) stops.1,
      ap (λ (p : Passed). p.to.stopped) is,
    )

-- an answer that does
abbrev stopped_at : Session → Entry → Stop → Passed
stopped_at s e stop = record { entries = e ∷ Stopped stop ∷ []; to = with_stop s stop }

answer_stops : (s : Session) (w : Waiting) (a : Answer) (l : Limit) → Passes l s.state (answered s.state w a)
    → moved_by None (Some w) s (Gets a) ≡ stopped_at s (heard_by s w.wait a) (LimitAt s.state.pc l)
answer_stops s w a l h =
    ap (λ (v : Verdict). let p : Passed = record {
      entries = heard_by s w.wait a
          ∷ stop_told (resumed s v (state_after s.state (answered s.state w a))).stopped;
      to =
          resumed s v (state_after s.state (answered s.state w a));
    } in p)
    (passes_stops l s.state (answered s.state w a) h).0

pub limits_cut_runs : LimitsCutRuns
limits_cut_runs ms s runs = record {
  steps = λ more free silent past.
      let t = after ms s in
      let stop = LimitAt t.state.pc Steps in
      passed_on ms (Goes ∷ more) s (Stopped stop ∷ [])
      (passed_last Goes more t (stepped 0 t) stop (moved_steps t 0 runs free silent (omega (arith, past))) refl);
  step = λ more l free silent few passes.
      let t = after ms s in
      let stop = LimitAt t.state.pc l in
      let n : ℕ = t.limits.steps - t.state.steps - 1 in
      let there = step_stops t n l passes in
      passed_on ms (Goes ∷ more) s (last_told t.left t.state.pc ++ Stopped stop ∷ [])
      (passed_last Goes more t (stepped (suc n) t) stop
      (moved_steps t (suc n) runs free silent (omega (arith, few))) there.1 ∙ there.0);
  answer = λ a more w l waits passes.
      let t = after ms s in
      let stop = LimitAt t.state.pc l in
      let there = moved_gets t w a runs waits ∙ answer_stops t w a l passes in
      passed_on ms (Gets a ∷ more) s (heard_by t w.wait a ∷ Stopped stop ∷ [])
      (passed_last (Gets a) more t (stopped_at t (heard_by t w.wait a) stop) stop there refl);
}
