use Rattle.zk_tables.proofs.ListLaw.{at_most_one_list}
use Rattle.zk_tables.proofs.laws.at_most_one_list.Goals as goal

pub returns : goal.returns
returns c = at_most_one_list
