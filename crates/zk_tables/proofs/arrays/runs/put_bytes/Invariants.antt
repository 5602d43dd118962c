use Rattle.std.proofs.Common.{◌≡◌, ◌+◌, drop}
use Rattle.zk_tables.specs.Runs.{bytes_put}
use Rattle.zk_tables.proofs.arrays.runs.put_bytes.Given as goal

abbrev pub invariant-loop-i : goal.invariant-loop-i
invariant-loop-i l = record {
  so_far : bytes_put l.memory (l.address + l.i) (drop l.i l.bytes) ≡ bytes_put l.fn.memory l.address l.bytes;
}
