-- A grid of cells (Standard, section 8.6): 255 rows of 255 columns.
use Rattle.std.specs.Prelude.{◌≡◌, ℕ, Bool, false, not, if◌then◌else◌, ◌==◌, ◌&&◌, ◌||◌, nat_le}
use Rattle.std.proofs.Common.{ap}
use Rattle.zk_term.specs.declared.windows.Cell.{Cell}
use Rattle.zk_term.specs.Styles.{roman}

-- a space stands in an empty cell, in no style
abbrev pub blank : Cell
blank = record { character = 32; style = roman }

abbrev pub is_blank : Cell → Bool
is_blank c =
    c.character == 32 && not (c.style.reverse || c.style.bold || c.style.italic || c.style.fixed)

-- rows and columns are numbered from 1 on
abbrev pub is_on_grid : ℕ → ℕ → Bool
is_on_grid row column = nat_le 1 row && nat_le row 255 && nat_le 1 column && nat_le column 255

-- What stands in each cell, by its row and column. There is nothing but blanks off the grid, so two grids are the same
-- where all their cells are.
pub record Cells : Type 0 where
  pub at : ℕ → ℕ → Cell
  pub blank_outside : (row column : ℕ) → is_on_grid row column ≡ false → at row column ≡ blank

-- the cells that are on the grid
abbrev pub cell_on_grid : (ℕ → ℕ → Cell) → ℕ → ℕ → Cell
cell_on_grid cell row column = if is_on_grid row column then cell row column else blank

-- a grid of cells
unfoldable pub on_grid : (ℕ → ℕ → Cell) → Cells
on_grid cell = record {
  at = cell_on_grid cell;
  blank_outside = λ row column outside. ap (λ (b : Bool). if b then cell row column else blank) outside;
}

-- all cells are empty
unfoldable pub no_cells : Cells
no_cells = on_grid (λ row column. blank)

-- cells of which some are emptied
unfoldable pub emptied : (ℕ → ℕ → Bool) → Cells → Cells
emptied among cells = on_grid (λ row column. if among row column then blank else cells.at row column)

-- cells of which one gets another in its place
unfoldable pub cell_put : Cells → ℕ → ℕ → Cell → Cells
cell_put cells at_row at_column cell =
    on_grid (λ row column. if row == at_row && column == at_column then cell else cells.at row column)
