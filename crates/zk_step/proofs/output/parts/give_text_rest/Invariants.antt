use Rattle.std.proofs.Common.{IsOk}
use Rattle.zk_text.specs.Places.{Gives, IsPlace, left, work_left}
use Rattle.zk_step.proofs.output.parts.give_text_rest.Given as goal

abbrev pub invariant-loop-fault : goal.invariant-loop-fault
invariant-loop-fault g l = record {
  stands : IsPlace l.place;
  means : IsOk (left l.memory l.place);
  gives : Gives g.K.Sink.gave l.fn.sink l.sink (left l.fn.memory l.fn.place) (left l.memory l.place);
}

abbrev pub decreases-loop-fault : goal.decreases-loop-fault
decreases-loop-fault g l = work_left l.memory l.place
