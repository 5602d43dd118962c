use Rattle.std.proofs.Common.{◌≡◌, ℕ, List, take, Ok}
use Rattle.zk_tables.specs.Runs.{places, bytes_read}
use Rattle.zk_tables.specs.Rectangles.{row_units}
use Rattle.zk_tables.proofs.arrays.rectangle.give_bytes.Given as goal

abbrev pub invariant-loop-column : goal.invariant-loop-column
invariant-loop-column g l = record {
  so_far : (codes : List ℕ) → bytes_read l.memory (places l.table l.length) ≡ Ok codes
      → g.S.Sink.gave l.fn.sink l.sink (row_units (take l.column codes));
}
