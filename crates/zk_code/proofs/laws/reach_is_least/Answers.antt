use Rattle.zk_code.proofs.Reached.{reach_is_least}
use Rattle.zk_code.proofs.laws.reach_is_least.Goals as goal

pub returns : goal.returns
returns c = reach_is_least
