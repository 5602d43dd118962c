use Rattle.zk_step.proofs.Sweep.{answers_leave_stories}
use Rattle.zk_step.proofs.laws.answers_leave_stories.Goals as goal

pub returns : goal.returns
returns c = answers_leave_stories
