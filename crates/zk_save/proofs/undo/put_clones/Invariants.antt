use Rattle.std.proofs.Common.{◌≡◌, take}
use Rattle.circular_buffer.specs.Buffer.{buffer}
use Rattle.zk_save.proofs.undo.put_clones.Given as goal

abbrev pub invariant-loop-k : goal.invariant-loop-k
invariant-loop-k l = l.clones ≡ buffer (take l.k l.ring.items) l.fn.clones.capacity
