use Rattle.std.proofs.Common.{◌≡◌, ◌≤◌, ℕ, List, Ok, drop}
use Rattle.zk_tables.specs.Rectangles.{rows_of}
use Rattle.zk_text.specs.Extra.{own_characters}
use Rattle.zk_step.specs.Routing.{rows_printed, rectangle_printed}
use Rattle.zk_step.proofs.output.routing.print_rows.Given as goal

abbrev pub invariant-loop-row : goal.invariant-loop-row
invariant-loop-row l = record {
  from : 1 ≤ l.row;
  so_far : (rows : List (List ℕ)) → rows_of l.memory l.rectangle ≡ Ok rows
      → rows_printed l.on (own_characters l.memory) l.column (drop l.row rows) l.windows ≡ rectangle_printed l.on
      (own_characters l.memory) rows l.fn.windows;
}
