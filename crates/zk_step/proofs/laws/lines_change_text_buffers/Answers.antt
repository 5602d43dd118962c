use Rattle.zk_step.proofs.guards.Buffers.{lines_change_text_buffers}
use Rattle.zk_step.proofs.laws.lines_change_text_buffers.Goals as goal

pub returns : goal.returns
returns c = lines_change_text_buffers
