use Rattle.std.proofs.Common.{◌≡◌, set, refl, arith}
use Rattle.std.proofs.lemmas.Bool.{le-leb}
use Rattle.zk_term.specs.declared.windows.Cell.{Cell}
use Rattle.zk_term.specs.Grid.{cell_put}
use Rattle.zk_term.specs.Places.{cells_of}
use Rattle.zk_term.proofs.Grids.{cells_of-set}
use Rattle.zk_term.proofs.windows.Windows.put_cell.Goals as goal

pub returns-then-self-2 : goal.returns-then-self-2
returns-then-self-2 c =
    let s = c.self.inside in
    let cell : Cell = record { character = c.args.c; style = s.style } in
    let grid : cells_of (set s.cells.items c.place-k.result cell) ≡ cell_put (cells_of s.cells.items) s.row
    s.column cell =
    cells_of-set s.cells.items s.row s.column c.place-k.result cell (omega arith)
    (record {
      row_from = c.self.invariant.row_from;
      row_to = omega arith;
      column_from = c.self.invariant.column_from;
      column_to = omega arith;
    }) c.place-k.ensures in
    rw (← c.self.view_is, grid, le-leb s.row s.height c.if-self.true, le-leb s.column s.width c.if-self-2.true) refl
