use Rattle.zk_host.proofs.Collecting.{left_over}
use Rattle.zk_host.proofs.collected.Collected.has.Goals as goal

pub returns : goal.returns
returns c = rw (c.saturating_sub.ensures, c.len.ensures, c.len-2.ensures) (left_over _ _ _)
