use Rattle.zk_strict.proofs.Taken.{values_taken}
use Rattle.zk_strict.proofs.laws.values_are_taken.Goals as goal

pub returns : goal.returns
returns c = values_taken
