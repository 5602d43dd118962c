-- A step by what was done.
use Rattle.std.proofs.Common.{◌≡◌, Result, Ok, Err, refl}
use Rattle.zk_mem.specs.declared.fault.Fault.{Fault}
use Rattle.zk_step.specs.Routing.{Signals}
use Rattle.zk_vm.specs.declared.waiting.Waiting.{Waiting}
use Rattle.zk_vm.specs.Step.{State, Step, step_by}
use Rattle.zk_vm.specs.Step.Step.{Faults, Goes, Waits}

-- what holds of the step by each value, and of each fault, holds of the step
pub step_all : {A : Type 0} (P : Step → Type 0) (next : A → Step) (r : Result A Fault)
    → ((x : A) → r ≡ Ok x → P (next x)) → ((f : Fault) → r ≡ Err f → P (Faults f)) → P (step_by next r)
step_all {A} P next (Ok x) on off = on x refl
step_all {A} P next (Err f) on off = off f refl

-- steps that are the same lead to the same state
pub goes_same : (s t : State) (text more : Signals) → Goes s text ≡ Goes t more → s ≡ t
goes_same s t text more h = cc

pub waits_same : (s t : State) (v w : Waiting) (text more : Signals) → Waits s v text ≡ Waits t w more → s ≡ t
waits_same s t v w text more h = cc
