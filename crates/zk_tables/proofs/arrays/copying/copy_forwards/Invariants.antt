use Rattle.std.proofs.Common.{◌≡◌, ◌+◌, ◌-◌}
use Rattle.zk_tables.specs.Runs.{places}
use Rattle.zk_tables.specs.Copying.{copied_forwards}
use Rattle.zk_tables.proofs.arrays.copying.copy_forwards.Given as goal

abbrev pub invariant-loop-i : goal.invariant-loop-i
invariant-loop-i l = record {
  so_far : copied_forwards l.memory (places (l.first + l.i) (l.size - l.i))
      (places (l.second + l.i) (l.size - l.i)) ≡ copied_forwards l.fn.memory (places l.first l.size)
      (places l.second l.size);
}
