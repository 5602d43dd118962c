-- The upper window (Standard, sections 8.6 and 8.7): a grid of cells, of which a height of rows is shown, with a
-- cursor; the lower window has neither. Of grids that are gone the tallest is kept, for whoever draws the screen.
use Rattle.std.specs.Prelude.{Bool, true, false, ℕ, zero, suc, ◌+◌, List, [], ◌∷◌, map, if◌then◌else◌, ◌==◌, ◌&&◌}
use Rattle.std.specs.Prelude.{nat_lt}
use Rattle.std.specs.Prelude.{nat_le, min, max}
use Rattle.zk_term.specs.declared.windows.Cell.{Cell}
use Rattle.zk_term.specs.Grid.{Cells, is_blank, no_cells, emptied, cell_put}
use Rattle.zk_term.specs.Styles.{roman}
use Rattle.zk_term.specs.declared.style.Style.{Style}
use Rattle.zk_term.specs.declared.windows.Window.{Window}
use Rattle.zk_term.specs.declared.windows.Window.TheVariants.{Lower, Upper}

-- the cells, how many rows are shown and how many columns they have, the row and column of the cursor, the window that
-- is selected, the text style that is set, and whether the font is that of a fixed pitch; the cells and the height
-- of the tallest grid that has gone, or has become
-- lower, since one was last forgotten
pub record Windows : Type 0 where
  pub cells : Cells
  pub height : ℕ
  pub width : ℕ
  pub row : ℕ
  pub column : ℕ
  pub selected : Window
  pub style : Style
  pub fixed_font : Bool
  pub gone : Cells
  pub gone_height : ℕ

-- at the start the upper window has no row, the lower one is selected (section 8.7.2), and text is roman; a line of the
-- screen has so many columns (section 8.4)
unfoldable pub first_windows : ℕ → Windows
first_windows width = record {
  cells = no_cells;
  height = 0;
  width = width;
  row = 1;
  column = 1;
  selected = Lower;
  style = roman;
  fixed_font = false;
  gone = no_cells;
  gone_height = 0;
}

-- the cursor goes to the top left
abbrev pub homed : Windows → Windows
homed w = record w { row = 1; column = 1 }

-- the cursor goes to the top left where it was below the height
abbrev pub homed_below : ℕ → Windows → Windows
homed_below height w = if nat_lt height w.row then homed w else w

-- the rows past a height are emptied, in version 3 all (section 8.6.1.1)
abbrev pub past : ℕ → ℕ → ℕ → ℕ → Bool
past version height row column = if version == 3 then true else nat_lt height row

-- what stands in the window is kept where it gets a lower height, and nothing taller is gone
abbrev pub kept_if_lower : ℕ → Windows → Windows
kept_if_lower height w =
    if nat_lt height w.height && nat_le w.gone_height w.height
    then record w { gone = w.cells; gone_height = w.height }
    else w

-- so many rows are shown, and those past them are emptied
abbrev pub with_height : ℕ → ℕ → Windows → Windows
with_height version height w = record w { cells = emptied (past version height) w.cells; height = height }

-- the upper window gets a height (section 15, `split_window`)
unfoldable pub split : ℕ → ℕ → Windows → Windows
split version lines w =
    homed_below (min lines 255) (with_height version (min lines 255) (kept_if_lower (min lines 255) w))

-- a window is selected; in the upper one the cursor goes to the top left (section 8.7.2)
unfoldable pub window_selected : Window → Windows → Windows
window_selected Lower w = record w { selected = Lower }
window_selected Upper w = homed (record w { selected = Upper })

-- the whole grid is emptied (section 8.7.3)
unfoldable pub cleared : Windows → Windows
cleared w = homed (record w { cells = no_cells })

-- the grid is emptied, and the upper window has no row any more (section 8.7.3.3)
unfoldable pub unsplit : Windows → Windows
unsplit w = record (cleared (kept_if_lower 0 w)) { height = 0; selected = Lower }

-- the grid that is gone is forgotten
unfoldable pub forgotten : Windows → Windows
forgotten w = record w { gone = no_cells; gone_height = 0 }

-- the rest of a row, from a column on
abbrev pub rest_of_row : ℕ → ℕ → ℕ → ℕ → Bool
rest_of_row at_row at_column row column = row == at_row && nat_le at_column column

-- from the cursor on its row is emptied (section 15, `erase_line`)
unfoldable pub line_erased : Windows → Windows
line_erased w = record w { cells = emptied (rest_of_row w.row w.column) w.cells }

-- the cursor goes to a row and a column of the screen (section 15, `set_cursor`)
unfoldable pub cursor_set : ℕ → ℕ → Windows → Windows
cursor_set row column w = record w { row = max 1 (min row 255); column = max 1 (min column w.width) }

-- the cursor goes to a column of the next row, past the last one at most
unfoldable pub next_row : ℕ → Windows → Windows
next_row column w = record w { row = min (w.row + 1) 256; column = column }

-- a character in the style that is set
abbrev pub styled : ℕ → Windows → Cell
styled c w = record { character = c; style = w.style }

-- a cell of the window's rows gets a character in the style that is set; what stands past the last column or below the
-- height is dropped
abbrev pub character_put : ℕ → Windows → Windows
character_put c w =
    if nat_le w.row w.height && nat_le w.column w.width
    then record w { cells = cell_put w.cells w.row w.column (styled c w) }
    else w

-- the cursor goes on to the right, past the last column at most
abbrev pub moved_right : Windows → Windows
moved_right w = record w { column = min (w.column + 1) (w.width + 1) }

-- a character is printed in the upper window; 10 is a new line
unfoldable pub character_printed : ℕ → Windows → Windows
character_printed c w = if c == 10 then next_row 1 w else moved_right (character_put c w)

-- characters are printed, one after another
unfoldable pub printed : List ℕ → Windows → Windows
printed [] w = w
printed (c ∷ cs) w = printed cs (character_printed c w)

-- ---- what is shown of it

-- an item before others, unless it is blank and the last
abbrev pub before_blanks : {A : Type 0} → (A → Bool) → A → List A → List A
before_blanks empty c [] = if empty c then [] else c ∷ []
before_blanks empty c (d ∷ ds) = c ∷ d ∷ ds

-- a list without the blank items at its end
unfoldable pub without_last : {A : Type 0} → (A → Bool) → List A → List A
without_last empty [] = []
without_last empty (c ∷ cs) = before_blanks empty c (without_last empty cs)

abbrev pub is_space : ℕ → Bool
is_space c = c == 32

abbrev pub character_of : Cell → ℕ
character_of c = c.character

-- so many columns, from a column on
unfoldable pub columns_from : ℕ → ℕ → List ℕ
columns_from column zero = []
columns_from column (suc n) = column ∷ columns_from (column + 1) n

-- all cells of a row
abbrev pub whole_row : Cells → ℕ → List Cell
whole_row cells row = map (cells.at row) (columns_from 1 255)

-- the characters of a row of cells without the spaces at its end
abbrev pub row_text_of : Cells → ℕ → List ℕ
row_text_of cells row = without_last is_space (map character_of (whole_row cells row))

-- the cells of a row without the empty ones at its end: a space in a style is seen
abbrev pub row_cells_of : Cells → ℕ → List Cell
row_cells_of cells row = without_last is_blank (whole_row cells row)

-- those of a row of the window
unfoldable pub row_text : Windows → ℕ → List ℕ
row_text w row = row_text_of w.cells row

-- its cells
unfoldable pub row_cells : Windows → ℕ → List Cell
row_cells w row = row_cells_of w.cells row

-- the height of the tallest grid: the window's, or that of the one that is gone
unfoldable pub tallest_height : Windows → ℕ
tallest_height w = max w.height w.gone_height

-- the characters of a row of the tallest grid
unfoldable pub tallest_row_text : Windows → ℕ → List ℕ
tallest_row_text w row = if nat_lt w.height w.gone_height then row_text_of w.gone row else row_text w row

-- its cells
unfoldable pub tallest_row_cells : Windows → ℕ → List Cell
tallest_row_cells w row = if nat_lt w.height w.gone_height then row_cells_of w.gone row else row_cells w row
