use Rattle.std.proofs.Common.{refl}
use Rattle.zk_term.specs.Signals.Signal.{Beep}
use Rattle.zk_host.proofs.Collecting.{collects_mark}
use Rattle.zk_host.proofs.collected.CollectedScreen.beep.Goals as goal

pub returns : goal.returns
returns c = collects_mark _ _ (Beep c.args.bleep) _ refl refl (λ m. rw c.bleep_mark.ensures refl) c.mark_next.ensures
