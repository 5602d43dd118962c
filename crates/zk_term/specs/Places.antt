-- Where the cells of a grid stand in a list: the rows one after another.
use Rattle.std.specs.Prelude.{ℕ, ◌+◌, ◌-◌, ◌*◌, List, slice_index_or}
use Rattle.zk_term.specs.declared.windows.Cell.{Cell}
use Rattle.zk_term.specs.Grid.{Cells, blank, on_grid}

-- where a cell stands among all, the rows one after another
abbrev pub cell_number : ℕ → ℕ → ℕ
cell_number row column = 255 * (row - 1) + (column - 1)

-- the grid of a list of cells; past its end all are empty
unfoldable pub cells_of : List Cell → Cells
cells_of items = on_grid (λ row column. slice_index_or items (cell_number row column) blank)
