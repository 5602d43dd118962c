-- How contracts see the fields of `Windows`, and what always holds of them.
use Rattle.std.specs.Prelude.{◌≡◌, ◌≤◌, ◌*◌, ℕ, length, slice_index_or, vec_capacity}
use Rattle.zk_term.specs.declared.windows.Windows.TheInside.{Inside}
use Rattle.zk_term.specs.Grid as grid
use Rattle.zk_term.specs.Places.{cells_of}
use Rattle.zk_term.specs.Windows.{Windows}

-- what contracts see
abbrev pub windows_of : Inside → Windows
windows_of w = record {
  cells = cells_of w.cells.items;
  height = w.height;
  width = w.width;
  row = w.row;
  column = w.column;
  selected = w.selected;
  style = w.style;
  fixed_font = w.fixed_font;
  gone = cells_of w.gone.items;
  gone_height = w.gone_height;
}

-- There is room for the whole grid. The rows that are shown have cells, those that are not are blank, and the cursor
-- may stand past the last row and column. The grid that is gone has the cells of its rows alone.
pub record IsKept (w : Inside) : Type 0 where
  pub room : 65025 ≤ vec_capacity w.cells
  pub shown : w.height * 255 ≤ length w.cells.items
  pub blank : (k : ℕ) → w.height * 255 ≤ k → slice_index_or w.cells.items k grid.blank ≡ grid.blank
  pub row_from : 1 ≤ w.row
  pub row_to : w.row ≤ 256
  pub column_from : 1 ≤ w.column
  pub column_to : w.column ≤ 256
  pub gone_room : 65025 ≤ vec_capacity w.gone
  pub gone_cells : length w.gone.items ≡ w.gone_height * 255
