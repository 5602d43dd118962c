use Rattle.std.proofs.Common.{rules}
use Rattle.zk_program.proofs.Reports.{explained}
use Rattle.zk_program.proofs.report.write_words.Goals as goal

pub returns-in-Ok-Some-clause-text : goal.returns-in-Ok-Some-clause-text
returns-in-Ok-Some-clause-text g c = explained c.args.exit.now _ _ _ _ (search rules) c.write_words_line.ensures.text
