use Rattle.zk_code.proofs.Longer.{ends_inside}
use Rattle.zk_code.proofs.laws.ends_inside.Goals as goal

pub returns : goal.returns
returns c = ends_inside
