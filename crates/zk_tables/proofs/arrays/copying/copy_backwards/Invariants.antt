use Rattle.std.proofs.Common.{◌≡◌}
use Rattle.zk_tables.specs.Runs.{places}
use Rattle.zk_tables.specs.Copying.{copied_at_once}
use Rattle.zk_tables.proofs.arrays.copying.copy_backwards.Given as goal

abbrev pub invariant-loop-i : goal.invariant-loop-i
invariant-loop-i l = record {
  so_far : copied_at_once l.memory (places l.first l.i) (places l.second l.i) ≡ copied_at_once l.fn.memory
      (places l.first l.size) (places l.second l.size);
}
