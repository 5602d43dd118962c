use Rattle.std.proofs.Common.{◌≡◌, ◌+◌, ◌-◌}
use Rattle.zk_tables.specs.Copying.{cleared}
use Rattle.zk_tables.proofs.arrays.copying.clear.Given as goal

abbrev pub invariant-loop-i : goal.invariant-loop-i
invariant-loop-i l = record {
  so_far : cleared l.memory (l.table + l.i) (l.size - l.i) ≡ cleared l.fn.memory l.table l.size;
}
