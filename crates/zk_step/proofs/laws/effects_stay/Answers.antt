use Rattle.zk_step.proofs.Sweep.{effects_stay}
use Rattle.zk_step.proofs.laws.effects_stay.Goals as goal

pub returns : goal.returns
returns c = effects_stay
