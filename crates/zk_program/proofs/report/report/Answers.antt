use Rattle.std.proofs.Common.{rules}
use Rattle.zk_program.proofs.Reports.{cut_off, reported}
use Rattle.zk_program.proofs.report.report.Goals as goal

pub returns-in-Ok-clause-lines : goal.returns-in-Ok-clause-lines
returns-in-Ok-clause-lines g c = reported c.args.exit.now _ _ _ _ c.in-Ok.ensures.text c.report_briefly.ensures.line

pub returns-in-Err-clause-lines : goal.returns-in-Err-clause-lines
returns-in-Err-clause-lines g c = cut_off c.args.exit.now _ _ _ (search rules) c.in-Err.ensures.text
