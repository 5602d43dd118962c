use Rattle.zk_tables.proofs.LookUpLaw.{look_ups_are_first}
use Rattle.zk_tables.proofs.laws.look_ups_are_first.Goals as goal

pub returns : goal.returns
returns g = look_ups_are_first
