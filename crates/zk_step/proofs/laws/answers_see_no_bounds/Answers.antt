use Rattle.zk_step.proofs.Sweep.{answers_see_no_bounds}
use Rattle.zk_step.proofs.laws.answers_see_no_bounds.Goals as goal

pub returns : goal.returns
returns c = answers_see_no_bounds
