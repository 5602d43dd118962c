use Rattle.std.proofs.Common.{refl}
use Rattle.zk_term.specs.Signals.Signal.{Erase}
use Rattle.zk_host.proofs.Collecting.{collects_mark}
use Rattle.zk_host.proofs.collected.CollectedScreen.erase.Goals as goal

pub returns : goal.returns
returns c = collects_mark _ _ Erase _ refl refl (λ m. refl) c.mark_next.ensures
