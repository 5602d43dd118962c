use Rattle.zk_tables.proofs.guards.MadeLaw.{removals_are_made}
use Rattle.zk_tables.proofs.laws.removals_are_made.Goals as goal

pub returns : goal.returns
returns c = removals_are_made
