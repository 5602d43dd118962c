use Rattle.std.proofs.Common.{◌≡◌}
use Rattle.zk_step.specs.Laws.{fixed_parts}
use Rattle.zk_snapshot.proofs.reading.put_bytes.Given as goal

abbrev pub invariant-loop-k : goal.invariant-loop-k
invariant-loop-k l = fixed_parts l.memory ≡ fixed_parts l.fn.memory
