use Rattle.zk_code.proofs.Whole.{at_most_one}
use Rattle.zk_code.proofs.laws.at_most_one.Goals as goal

pub returns : goal.returns
returns c = at_most_one
