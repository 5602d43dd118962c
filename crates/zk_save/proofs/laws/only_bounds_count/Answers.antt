use Rattle.zk_save.proofs.Wholes.{same_of}
use Rattle.zk_save.proofs.laws.only_bounds_count.Goals as goal

pub returns : goal.returns
returns c = same_of
