use Rattle.zk_text.proofs.Giving.{gives_twice, rest_means}
use Rattle.zk_step.proofs.output.parts.give_text_rest.Goals as goal

pub loop-fault-preserved : goal.loop-fault-preserved
loop-fault-preserved g c =
    let next = rw c.in-Ok-true.field-0-test at c.in-Ok-true.ensures.ok in
    record {
      stands = c.in-Ok-true.ensures.stands c.in-Ok-true.field-0-test;
      means = rest_means g.K.Sink.gave _ _ _ _ next c.loop-fault.invariant.means;
      gives = gives_twice g.K.Sink.gave g.met.K.Sink.twice _ _ _ _ _ _ c.loop-fault.invariant.gives next;
    }
