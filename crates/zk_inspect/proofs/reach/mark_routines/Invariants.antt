use Rattle.std.proofs.Common.{◌≡◌, length, take}
use Rattle.zk_inspect.proofs.Searching.{AlsoMarked}
use Rattle.zk_inspect.proofs.reach.mark_routines.Given as goal

abbrev pub invariant-loop-routine : goal.invariant-loop-routine
invariant-loop-routine l = record {
  size : length l.marks ≡ length l.fn.marks;
  exact : AlsoMarked l.memory (take l.routine-index l.routines) l.fn.marks l.marks;
}
