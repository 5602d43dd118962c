use Rattle.zk_tables.proofs.guards.PutInLaw.{insertions_put_first}
use Rattle.zk_tables.proofs.laws.insertions_put_first.Goals as goal

pub returns : goal.returns
returns c = insertions_put_first
