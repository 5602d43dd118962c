use Rattle.std.proofs.Common.{◌≡◌, ◌≤◌, ℕ, List, take, Ok}
use Rattle.zk_tables.specs.Rectangles.{rows_of, joined_rows}
use Rattle.zk_tables.proofs.arrays.rectangle.give_rectangle.Given as goal

abbrev pub invariant-loop-row : goal.invariant-loop-row
invariant-loop-row g l = record {
  so_far : (rows : List (List ℕ)) → rows_of l.memory l.rectangle ≡ Ok rows
      → g.S.Sink.gave l.fn.sink l.sink (joined_rows (take l.row rows));
  begun : 1 ≤ l.row;
}
