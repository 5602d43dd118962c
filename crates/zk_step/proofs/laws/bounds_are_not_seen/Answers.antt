use Rattle.zk_step.proofs.Sweep.{bounds_are_not_seen}
use Rattle.zk_step.proofs.laws.bounds_are_not_seen.Goals as goal

pub returns : goal.returns
returns c = bounds_are_not_seen
