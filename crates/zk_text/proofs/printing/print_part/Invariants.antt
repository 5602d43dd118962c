use Rattle.std.proofs.Common.{◌≤◌, ◌<◌, IsOk}
use Rattle.zk_text.specs.Places.{Gives, IsPlace, left, work_left}
use Rattle.zk_text.proofs.printing.print_part.Given as goal

abbrev pub invariant-loop-i : goal.invariant-loop-i
invariant-loop-i g l = record {
  stands : IsPlace l.place;
  means : IsOk (left l.memory l.place);
  gives : Gives g.S.Sink.gave l.fn.sink l.sink (left l.fn.memory l.fn.place) (left l.memory l.place);
  some : 0 < l._i → work_left l.memory l.place < work_left l.fn.memory l.fn.place;
  most : work_left l.memory l.place ≤ work_left l.fn.memory l.fn.place;
}
