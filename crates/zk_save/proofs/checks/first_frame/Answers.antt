use Rattle.zk_save.proofs.FrameRuns.{first_short}
use Rattle.zk_save.proofs.checks.first_frame.Goals as goal

pub returns-then-stack-lt8-clause-value : goal.returns-then-stack-lt8-clause-value
returns-then-stack-lt8-clause-value c = first_short c.args.stack.now c.if-stack-lt8.true
