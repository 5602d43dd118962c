use Rattle.zk_tables.proofs.ListLaw.{lists_are_read}
use Rattle.zk_tables.proofs.laws.lists_are_read.Goals as goal

pub returns : goal.returns
returns c = lists_are_read
