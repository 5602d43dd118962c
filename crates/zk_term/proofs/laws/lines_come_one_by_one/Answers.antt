use Rattle.zk_term.proofs.Hearing.{are_lines}
use Rattle.zk_term.proofs.laws.lines_come_one_by_one.Goals as goal

pub returns : goal.returns
returns c = are_lines
