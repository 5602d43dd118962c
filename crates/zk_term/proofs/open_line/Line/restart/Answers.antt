use Rattle.std.proofs.Common.{refl}
use Rattle.zk_term.proofs.Wraps.{line_at_the_front}
use Rattle.zk_term.proofs.open_line.Line.restart.Goals as goal

pub returns-clause-open : goal.returns-clause-open
returns-clause-open c = line_at_the_front _ refl c.requires
