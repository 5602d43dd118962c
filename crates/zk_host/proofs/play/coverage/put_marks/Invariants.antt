use Rattle.std.proofs.Common.{◌≡◌, ◌++◌, drop, take}
use Rattle.std.specs.Prelude.{map}
use Rattle.zk_host.specs.Calls.{mark_byte}
use Rattle.zk_host.proofs.play.coverage.put_marks.Given as goal

abbrev pub invariant-loop-k : goal.invariant-loop-k
invariant-loop-k l = l.buffer ≡ take l.k (map mark_byte l.marks) ++ drop l.k l.fn.buffer
