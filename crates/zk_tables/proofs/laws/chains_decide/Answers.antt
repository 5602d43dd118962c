use Rattle.zk_tables.proofs.guards.RemovalLaw.{chains_decide}
use Rattle.zk_tables.proofs.laws.chains_decide.Goals as goal

pub returns : goal.returns
returns c = chains_decide
