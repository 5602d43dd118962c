use Rattle.std.proofs.Common.{sym}
use Rattle.zk_step.proofs.Filling.{far_code, plain_code}
use Rattle.zk_step.proofs.output.printer.code_stored.Goals as goal

pub returns-then-code-lt127 : goal.returns-then-code-lt127
returns-then-code-lt127 c = sym (plain_code c.args.extra.now c.args.code c.if-code-gt31.true c.if-code-lt127.true)

pub returns-then-code-ge252 : goal.returns-then-code-ge252
returns-then-code-ge252 c = sym (far_code c.args.extra.now c.args.code c.if-code-ge252.true)
