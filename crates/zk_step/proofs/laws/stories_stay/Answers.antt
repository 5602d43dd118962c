use Rattle.zk_step.proofs.Sweep.{stories_stay}
use Rattle.zk_step.proofs.laws.stories_stay.Goals as goal

pub returns : goal.returns
returns c = stories_stay
