-- A greater limit on steps changes no log that does not end by it.
use Rattle.std.proofs.Common.{◌≡◌, ◌∙◌, ◌-◌, ◌+◌, ℕ, zero, suc, Bool, true, false, List, [], ◌∷◌, ◌++◌, Option, Some}
use Rattle.std.proofs.Common.{None, refl, ap, arith}
use Rattle.zk_state.specs.declared.refusal.Limit.TheVariants.{Steps}
use Rattle.zk_step.specs.Routing.{Signals}
use Rattle.zk_vm.specs.declared.stop.Stop.{Stop}
use Rattle.zk_vm.specs.declared.stop.Stop.TheVariants.{Limit}
use Rattle.zk_vm.specs.declared.waiting.Waiting.{Waiting}
use Rattle.zk_vm.specs.Answers.{answered}
use Rattle.zk_vm.specs.Laws.{IsNoStepStop, StepLimitOnlyCuts, with_more_steps}
use Rattle.zk_vm.specs.Sessions.{Session, resumed}
use Rattle.zk_vm.specs.Step.{State, Verdict, step, state_after, verdict_of}
use Rattle.zk_vm.specs.Step.Verdict.{GoesOn, WaitsFor, StopsBy}
use Rattle.zk_vm.specs.Log.{Entry, Move, Passed, after, goes_by, heard_by, is_silent, moved, moved_by, parted}
use Rattle.zk_vm.specs.Log.{parted_to, parts_by, passed, stepped, stepped_to, stop_told, text_left, text_shown}
use Rattle.zk_vm.specs.Log.Move.{Gets, Goes, Part}
use Rattle.zk_vm.proofs.Logs.{passed_stopped}

abbrev OwnStop : Session → Type 0
OwnStop s = (stop : Stop) → s.stopped ≡ Some stop → IsNoStepStop stop

more_passed : ℕ → Passed → Passed
more_passed k p = record { entries = p.entries; to = with_more_steps k p.to }

to_more : (k : ℕ) (s : Session) (v : Verdict) (t : State) (text : Signals)
    → stepped_to (with_more_steps k s) v t text ≡ more_passed k (stepped_to s v t text)
unfolding more_passed
to_more k s GoesOn t text = refl
to_more k s (WaitsFor w) t text = refl
to_more k s (StopsBy stop) t text = refl

step_more : (k n : ℕ) (s : Session) → OwnStop (stepped n s).to
    → stepped (n + k) (with_more_steps k s) ≡ more_passed k (stepped n s)
step_more k zero s own = absurd (own (Limit s.state.pc Steps) refl)
step_more k (suc n) s own = let e : suc n + k ≡ suc (n + k) = omega arith in
    rw e (to_more k s (verdict_of s.state (step s.state)) (state_after s.state (step s.state))
    (text_left s.left s.state))

parted_more : (silent : Bool) (k i : ℕ) (s : Session) (v : Verdict) (t : State) (text : Signals)
    → parted_to silent i (with_more_steps k s) v t text ≡ more_passed k (parted_to silent i s v t text)
unfolding more_passed
parted_more true k i s v t text = refl
parted_more false k i s GoesOn t text = refl
parted_more false k i s (WaitsFor w) t text = refl
parted_more false k i s (StopsBy stop) t text = refl

part_more : (k i n : ℕ) (s : Session) → OwnStop (parted i n s).to
    → parted i (n + k) (with_more_steps k s) ≡ more_passed k (parted i n s)
part_more k i zero s own = absurd (own (Limit s.state.pc Steps) refl)
part_more k i (suc n) s own = let e : suc n + k ≡ suc (n + k) = omega arith in
    rw e (parted_more (is_silent (text_shown (step s.state))) k i s (verdict_of s.state (step s.state))
    (state_after s.state (step s.state)) (text_left s.left s.state))

goes_more : (k : ℕ) (due : List ℕ) (s : Session) (n : ℕ) → s.limits.steps - s.state.steps ≡ n
    → OwnStop (goes_by due s).to → goes_by due (with_more_steps k s) ≡ more_passed k (goes_by due s)
unfolding more_passed
goes_more k [] s zero e own = absurd ((rw e at own) (Limit s.state.pc Steps) refl)
goes_more k [] s (suc n) e own =
    let more : s.limits.steps + k - s.state.steps ≡ s.limits.steps - s.state.steps + k = omega (arith, e) in
    ap (λ (m : ℕ). stepped m (with_more_steps k s)) more ∙ step_more k (s.limits.steps - s.state.steps) s own
goes_more k (c ∷ cs) s n e own = refl

parts_more : (k i : ℕ) (due : List ℕ) (s : Session) (n : ℕ) → s.limits.steps - s.state.steps ≡ n
    → OwnStop (parts_by i due s).to → parts_by i due (with_more_steps k s) ≡ more_passed k (parts_by i due s)
unfolding more_passed
parts_more k i [] s zero e own = absurd ((rw e at own) (Limit s.state.pc Steps) refl)
parts_more k i [] s (suc n) e own =
    let more : s.limits.steps + k - s.state.steps ≡ s.limits.steps - s.state.steps + k = omega (arith, e) in
    ap (λ (m : ℕ). parted i m (with_more_steps k s)) more ∙ part_more k i (s.limits.steps - s.state.steps) s own
parts_more k i (c ∷ cs) s n e own = refl

given_more : (k : ℕ) (s : Session) (e : Entry) (v : Verdict) (t : State) → s.stopped ≡ None
    → ◌≡◌ {A = Passed} (record {
      entries = e ∷ stop_told (resumed (with_more_steps k s) v t).stopped;
      to = resumed (with_more_steps k s) v t;
    })
    (more_passed k (record { entries = e ∷ stop_told (resumed s v t).stopped; to = resumed s v t }))
unfolding more_passed
given_more k s e GoesOn t runs = refl
given_more k s e (WaitsFor w) t runs = refl
given_more k s e (StopsBy stop) t runs = refl

by_more : (k : ℕ) (x : Option Stop) (y : Option Waiting) (s : Session) (m : Move) → s.stopped ≡ x
    → OwnStop (moved_by x y s m).to → moved_by x y (with_more_steps k s) m ≡ more_passed k (moved_by x y s m)
unfolding more_passed
by_more k None None s Goes e own = goes_more k s.state.due s (s.limits.steps - s.state.steps) refl own
by_more k None None s (Part i) e own = parts_more k i s.state.due s (s.limits.steps - s.state.steps) refl own
by_more k None None s (Gets a) e own = refl
by_more k None (Some w) s Goes e own = refl
by_more k None (Some w) s (Part i) e own = refl
by_more k None (Some w) s (Gets a) e own =
    given_more k s (heard_by s w.wait a) (verdict_of s.state (answered s.state w a))
    (state_after s.state (answered s.state w a)) e
by_more k (Some stop) y s m e own = refl

pub step_limit_only_cuts : StepLimitOnlyCuts
unfolding passed after more_passed
step_limit_only_cuts k [] s own = (refl, refl)
step_limit_only_cuts k (m ∷ ms) s own =
    let t = (moved s m).to in
    let one = by_more k s.stopped s.waiting s m
    refl (λ stop e. own stop (ap (λ (u : Session). u.stopped) (passed_stopped ms t stop e).1 ∙ e)) in
    let rest = step_limit_only_cuts k ms t own in (
      ap (λ (p : Passed). p.entries ++ passed ms p.to) one ∙ ap (λ (l : List Entry). (moved s m).entries ++ l)
          rest.0,
      ap (λ (p : Passed). after ms p.to) one ∙ rest.1,
    )
