-- Which machines have a snapshot.
use Rattle.std.specs.Prelude.{◌≡◌, true, Option, Some, None}
use Rattle.std.proofs.Common.{ap, sym, ◌∙◌}
use Rattle.zk_step.specs.declared.state.ending.Event.{Event}
use Rattle.zk_vm.specs.Halts.{event_waited}
use Rattle.zk_vm.specs.Sessions.{Session}
use Rattle.zk_vm.specs.Step.{is_read}
use Rattle.zk_snapshot.specs.Snapshots.{HasSnapshot}

pub has_by : (s : Session) (event : Event) → event_waited s.waiting ≡ Some event → is_read event ≡ true → HasSnapshot s
has_by s event waits read = (event, (waits, read))

pub read_by : (s : Session) (event : Event) → event_waited s.waiting ≡ Some event → HasSnapshot s → is_read event ≡ true
read_by s event waits has = let same : has.0 ≡ event = cc in sym (ap is_read same) ∙ has.1.1

pub not_by : (s : Session) → event_waited s.waiting ≡ None → HasSnapshot s → ⊥
not_by s waits has = let none : ◌≡◌ {A = Option Event} None (Some has.0) = sym waits ∙ has.1.0 in absurd cc
