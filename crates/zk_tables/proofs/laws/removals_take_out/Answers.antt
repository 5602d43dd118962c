use Rattle.zk_tables.proofs.guards.TakenLaw.{removals_take_out}
use Rattle.zk_tables.proofs.laws.removals_take_out.Goals as goal

pub returns : goal.returns
returns c = removals_take_out
