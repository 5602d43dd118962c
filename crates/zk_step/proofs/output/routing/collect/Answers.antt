use Rattle.zk_step.proofs.Filling.{longer}
use Rattle.zk_step.proofs.output.routing.collect.Goals as goal

pub give_output-requires-clause-longer : goal.give_output-requires-clause-longer
give_output-requires-clause-longer c = λ a b us more h. (h.0, longer a.extra.now a.codes.now b.codes.now us more h.1)
