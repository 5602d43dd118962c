use Rattle.zk_program.proofs.Verdicts.{clean_where_none}
use Rattle.zk_program.proofs.clean.clean_where_none.Goals as goal

pub returns : goal.returns
returns c = clean_where_none
