use Rattle.zk_tables.proofs.guards.LinkLaw.{links_are_written}
use Rattle.zk_tables.proofs.laws.links_are_written.Goals as goal

pub returns : goal.returns
returns c = links_are_written
