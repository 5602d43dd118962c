use Rattle.zk_tables.proofs.guards.OrderLaw.{keys_are_in_order}
use Rattle.zk_tables.proofs.laws.keys_are_in_order.Goals as goal

pub returns : goal.returns
returns g = keys_are_in_order
