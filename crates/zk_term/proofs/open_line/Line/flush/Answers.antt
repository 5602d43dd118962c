use Rattle.zk_term.proofs.Wraps.{line_goes_by_itself}
use Rattle.zk_term.proofs.open_line.Line.flush.Goals as goal

pub returns-in-Ok-clause-open : goal.returns-in-Ok-clause-open
returns-in-Ok-clause-open g c = line_goes_by_itself _ c.clear.ensures
