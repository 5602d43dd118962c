use Rattle.zk_tables.proofs.TableLaw.{dictionaries_are_tables}
use Rattle.zk_tables.proofs.laws.dictionaries_are_tables.Goals as goal

pub returns : goal.returns
returns g = dictionaries_are_tables
