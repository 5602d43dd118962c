-- Laws of the upper window (Standard, sections 8.6 and 8.7).
use Rattle.std.specs.Prelude.{◌≡◌, ◌≢◌, ◌+◌, ◌<◌, ◌≤◌, ℕ, List, [], ◌∷◌, ◌++◌, length, slice_index, replicate, min, max}
use Rattle.std.specs.List.{AllByRecursion}
use Rattle.zk_term.specs.declared.windows.Window.{Window}
use Rattle.zk_term.specs.Grid.{blank}
use Rattle.zk_term.specs.Windows.{Windows, first_windows, split, window_selected, cleared, unsplit, forgotten}
use Rattle.zk_term.specs.Windows.{line_erased, cursor_set, next_row, printed, without_last, is_space, row_text}
use Rattle.zk_term.specs.Windows.{tallest_height, tallest_row_text, styled, row_cells}

-- none of the characters is a new line
abbrev pub HasNoNewLine : List ℕ → Type 0
HasNoNewLine cs = AllByRecursion (λ c. c ≢ 10) cs

-- The characters stand in consecutive cells from where the cursor was, in the style that is set, the cursor has come
-- after them, and nothing else is changed (sections 8.7.1 and 8.7.2).
pub record StandInARow (cs : List ℕ) (old new : Windows) : Type 0 where
  pub here : (k : ℕ) → k < length cs → new.cells.at old.row (old.column + k) ≡ styled (slice_index cs k) old
  pub left : (column : ℕ) → column < old.column → new.cells.at old.row column ≡ old.cells.at old.row column
  pub right : (column : ℕ) → old.column + length cs ≤ column → new.cells.at old.row column ≡ old.cells.at old.row column
  pub rows : (row column : ℕ) → row ≢ old.row → new.cells.at row column ≡ old.cells.at row column
  pub row : new.row ≡ old.row
  pub column : new.column ≡ old.column + length cs

-- characters that find room in a row of the window
abbrev pub CharactersStandInARow : Type 0
CharactersStandInARow =
    (cs : List ℕ) (w : Windows) → HasNoNewLine cs → 1 ≤ w.row → w.row ≤ w.height → w.height ≤ 255
    → 1 ≤ w.column → w.column + length cs ≤ w.width + 1 → w.width ≤ 255 → StandInARow cs w (printed cs w)

-- what is printed changes neither the height nor the selected window, nor how many columns there are
abbrev pub PrintsKeepTheSplit : Type 0
PrintsKeepTheSplit =
    (cs : List ℕ) (w : Windows) → ((printed cs w).height ≡ w.height) × ((printed cs w).selected ≡ w.selected)
    × ((printed cs w).width ≡ w.width)

-- what is printed changes no row below the height
abbrev pub PrintsKeepTheRowsBelow : Type 0
PrintsKeepTheRowsBelow =
    (cs : List ℕ) (w : Windows) (row column : ℕ) → w.height < row
    → (printed cs w).cells.at row column ≡ w.cells.at row column

-- characters are printed one after another: a text after another is printed where that has left the cursor
abbrev pub PrintsFollowOneAnother : Type 0
PrintsFollowOneAnother = (cs ds : List ℕ) (w : Windows) → printed (cs ++ ds) w ≡ printed ds (printed cs w)

-- a split leaves the rows of the upper window and empties those past it, but in version 3 it empties all (section
-- 8.6.1.1)
pub record IsSplit (version lines : ℕ) (old new : Windows) : Type 0 where
  pub height : new.height ≡ min lines 255
  pub selected : new.selected ≡ old.selected
  pub kept : version ≢ 3 → (row column : ℕ) → row ≤ min lines 255 → new.cells.at row column ≡ old.cells.at row column
  pub past : (row column : ℕ) → min lines 255 < row → new.cells.at row column ≡ blank
  pub all : version ≡ 3 → (row column : ℕ) → new.cells.at row column ≡ blank

abbrev pub SplitsEmptyThePast : Type 0
SplitsEmptyThePast = (version lines : ℕ) (w : Windows) → IsSplit version lines w (split version lines w)

-- the tallest grid is told as it was where the window becomes lower than that, until it is forgotten
pub record KeepsTheTallest : Type 0 where
  pub split_height : (version lines : ℕ) (w : Windows) → tallest_height (split version lines w) ≡ max
      (min lines 255) (tallest_height w)
  pub split_rows : (version lines : ℕ) (w : Windows) → min lines 255 < tallest_height w → (row : ℕ)
      → tallest_row_text (split version lines w) row ≡ tallest_row_text w row
  pub unsplit_height : (w : Windows) → tallest_height (unsplit w) ≡ tallest_height w
  pub unsplit_rows : (w : Windows) → 0 < tallest_height w → (row : ℕ)
      → tallest_row_text (unsplit w) row ≡ tallest_row_text w row
  pub forgotten_height : (w : Windows) → tallest_height (forgotten w) ≡ w.height
  pub forgotten_rows : (w : Windows) (row : ℕ) → tallest_row_text (forgotten w) row ≡ row_text w row

-- the cursor stands on the grid, or right past its last row or column
pub record IsNearTheGrid (w : Windows) : Type 0 where
  pub row_from : 1 ≤ w.row
  pub row_to : w.row ≤ 256
  pub column_from : 1 ≤ w.column
  pub column_to : w.column ≤ w.width + 1

-- nothing moves the cursor away from the grid
pub record KeepsTheCursor : Type 0 where
  pub first : (width : ℕ) → IsNearTheGrid (first_windows width)
  pub split : (version lines : ℕ) (w : Windows) → IsNearTheGrid w → IsNearTheGrid (split version lines w)
  pub selected : (window : Window) (w : Windows) → IsNearTheGrid w → IsNearTheGrid (window_selected window w)
  pub cleared : (w : Windows) → IsNearTheGrid (cleared w)
  pub unsplit : (w : Windows) → IsNearTheGrid (unsplit w)
  pub line_erased : (w : Windows) → IsNearTheGrid w → IsNearTheGrid (line_erased w)
  pub set : (row column : ℕ) (w : Windows) → IsNearTheGrid (cursor_set row column w)
  pub next_row : (column : ℕ) (w : Windows) → 1 ≤ column → column ≤ w.width + 1 → IsNearTheGrid w
      → IsNearTheGrid (next_row column w)
  pub printed : (cs : List ℕ) (w : Windows) → IsNearTheGrid w → IsNearTheGrid (printed cs w)

-- a text without the spaces at its end is the text but for these spaces, and ends with none
pub record IsWithoutLastSpaces (text whole : List ℕ) : Type 0 where
  pub spaces : ℕ
  pub rest : whole ≡ text ++ replicate spaces 32
  pub ending : (front : List ℕ) → text ≡ front ++ 32 ∷ [] → ⊥

abbrev pub SpacesAtTheEndGo : Type 0
SpacesAtTheEndGo = (whole : List ℕ) → IsWithoutLastSpaces (without_last is_space whole) whole

-- where all is emptied, no row has a text or a cell (section 8.7.3)
abbrev pub ClearedRowsHaveNoText : Type 0
ClearedRowsHaveNoText = (w : Windows) (row : ℕ) → (row_text (cleared w) row ≡ []) × (row_cells (cleared w) row ≡ [])
