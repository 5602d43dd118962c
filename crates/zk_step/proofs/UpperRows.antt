-- Rows of a rectangle, printed in the upper window.
use Rattle.std.proofs.Common.{◌≡◌, ◌≤◌, ◌<◌, ℕ, ◌+◌, Bool, List, [], ◌∷◌, length, drop, get_or, Result, Ok, Err, IsOk}
use Rattle.std.proofs.Common.{refl, arith, drop-cons, add-one}
use Rattle.std.proofs.lemmas.List.{drop_all}
use Rattle.zk_mem.specs.declared.fault.Fault.{Fault}
use Rattle.zk_text.specs.Extra.{ExtraTable}
use Rattle.zk_text.specs.Shown.{shown_all}
use Rattle.zk_term.specs.Windows.{Windows, next_row}
use Rattle.zk_tables.specs.Rectangles.{row_units}
use Rattle.zk_step.specs.Printing.{rows_or_none}
use Rattle.zk_step.specs.Routing.{printed_if, rows_printed, rectangle_printed}

-- a further row
pub row_on : (on : Bool) (t : ExtraTable) (column row : ℕ) (rows : List (List ℕ)) (w v : Windows)
    → row < length rows → v ≡ printed_if on (shown_all t (row_units (get_or rows row []))) (next_row column w)
    → rows_printed on t column (drop row rows) w ≡ rows_printed on t column (drop (row + 1) rows) v
unfolding rows_printed
row_on on t column row rows w v h is = rw (drop-cons rows row [], is, add-one row) refl

pub rows_end : (on : Bool) (t : ExtraTable) (column row : ℕ) (rows : List (List ℕ)) (w : Windows)
    → length rows ≤ row → rows_printed on t column (drop row rows) w ≡ w
unfolding rows_printed
rows_end on t column row rows w h = rw (drop_all row rows h) refl

pub rows_begin : (on : Bool) (t : ExtraTable) (rows : List (List ℕ)) (w v : Windows) → 0 < length rows
    → v ≡ printed_if on (shown_all t (row_units (get_or rows 0 []))) w
    → rows_printed on t w.column (drop 1 rows) v ≡ rectangle_printed on t rows w
rows_begin on t [] w v h is = absurd (omega arith)
rows_begin on t (row ∷ rows) w v h is = rw is refl

pub no_rows : (on : Bool) (t : ExtraTable) (rows : List (List ℕ)) (w : Windows) → length rows ≡ 0
    → w ≡ rectangle_printed on t rows w
no_rows on t [] w h = refl
no_rows on t (row ∷ rows) w h = absurd (omega arith)

-- rows that can be read
pub ready_rows : (r : Result (List (List ℕ)) Fault) → IsOk r → (rows : List (List ℕ)) × (r ≡ Ok rows)
    × (rows_or_none r ≡ rows)
ready_rows (Ok rows) h = (rows, refl, refl)
ready_rows (Err f) h = cc
