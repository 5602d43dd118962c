use Rattle.zk_step.proofs.Sweep.{effects_end}
use Rattle.zk_step.proofs.laws.effects_end.Goals as goal

pub returns : goal.returns
returns c = effects_end
