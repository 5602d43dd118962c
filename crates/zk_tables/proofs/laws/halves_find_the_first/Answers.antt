use Rattle.zk_tables.proofs.Halving.{halves_find_the_first}
use Rattle.zk_tables.proofs.laws.halves_find_the_first.Goals as goal

pub returns : goal.returns
returns g = halves_find_the_first
