use Rattle.std.proofs.Common.{◌≡◌, ◌*◌, refl}
use Rattle.zk_term.specs.Grid.{emptied}
use Rattle.zk_term.specs.Places.{cells_of}
use Rattle.zk_term.specs.Windows.{line_erased, rest_of_row}
use Rattle.zk_term.proofs.Grids.{cells_of-emptied, rest_place}
use Rattle.zk_term.proofs.windows.Windows.erase_line.Goals as goal

pub returns : goal.returns
unfolding line_erased
returns c =
    let s = c.self.inside in
    let i = c.self.invariant in
    let grid : cells_of c.empty.new.cells.items ≡ emptied (rest_of_row s.row s.column) (cells_of s.cells.items) =
    cells_of-emptied s.cells.items c.empty.new.cells.items c.place-from.result (s.row * 255)
    (rest_of_row s.row s.column) c.empty.ensures.value
    (λ r q place. rest_place s.row s.column c.place-from.result (s.row * 255) r q i.row_from i.column_from
    i.column_to c.place-from.ensures refl place) in
    rw (← c.self.view_is, grid) refl
