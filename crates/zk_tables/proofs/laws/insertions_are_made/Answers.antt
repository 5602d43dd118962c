use Rattle.zk_tables.proofs.guards.MadeLaw.{insertions_are_made}
use Rattle.zk_tables.proofs.laws.insertions_are_made.Goals as goal

pub returns : goal.returns
returns c = insertions_are_made
