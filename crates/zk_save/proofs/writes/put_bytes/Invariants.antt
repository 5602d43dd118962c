use Rattle.std.proofs.Common.{◌≡◌, ◌++◌, take, drop}
use Rattle.zk_mem.specs.Again.{with_bytes}
use Rattle.zk_save.proofs.writes.put_bytes.Given as goal

abbrev pub invariant-loop-i : goal.invariant-loop-i
invariant-loop-i l = l.memory ≡ with_bytes l.fn.memory (take l.i l.bytes ++ drop l.i l.fn.memory.bytes)
