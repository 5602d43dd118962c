use Rattle.zk_tables.proofs.CopyLaw.{forwards_is_at_once}
use Rattle.zk_tables.proofs.arrays.laws.forwards_is_at_once.Goals as goal

pub returns : goal.returns
returns c = forwards_is_at_once
