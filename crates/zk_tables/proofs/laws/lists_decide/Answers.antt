use Rattle.zk_tables.proofs.guards.DecidedLaw.{lists_decide}
use Rattle.zk_tables.proofs.laws.lists_decide.Goals as goal

pub returns : goal.returns
returns c = lists_decide
