-- Parts of a text and of rows in the upper window.
use Rattle.std.proofs.Common.{◌≡◌, ◌≤◌, ◌<◌, ℕ, zero, suc, ◌+◌, Bool, List, [], ◌∷◌, drop, length, get_or, IsOk, refl}
use Rattle.std.proofs.Common.{sym, arith}
use Rattle.zk_mem.specs.Map.{MemoryMap}
use Rattle.zk_text.specs.declared.unit.Unit.{Unit}
use Rattle.zk_text.specs.Extra.{ExtraTable}
use Rattle.zk_text.specs.Shown.{shown_all}
use Rattle.zk_text.proofs.ShownLemmas.{shown_all-append}
use Rattle.zk_tables.specs.Rectangles.{row_units, rows_of}
use Rattle.zk_tables.specs.declared.arrays.rectangle.Rectangle.{Rectangle}
use Rattle.zk_tables.proofs.Rows.{rows_length}
use Rattle.zk_term.specs.Windows.{Windows, next_row, printed}
use Rattle.zk_step.specs.Halves.{GivesSome, rest_rows, upper_rows}
use Rattle.zk_step.specs.Printed.{printed-append}
use Rattle.zk_step.specs.Routing.{printed_if, rows_printed}
use Rattle.zk_step.proofs.UpperRows.{ready_rows, row_on, rows_end}

pub upper_first : (on : Bool) (t : ExtraTable) (column : ℕ) (rows : List (List ℕ)) (w v : Windows)
    → 0 < length rows → v ≡ printed_if on (shown_all t (row_units (get_or rows 0 []))) w
    → upper_rows on t column 1 (drop 1 rows) v ≡ upper_rows on t column 0 (drop 0 rows) w
upper_first on t column [] w v h is = absurd (omega arith)
upper_first on t column (row ∷ rows) w v h is = rw is refl

next_suc : (on : Bool) (t : ExtraTable) (column row next : ℕ) (rows : List (List ℕ)) (w v : Windows)
    → next ≡ suc (suc row) → rows_printed on t column (drop (suc row) rows) w ≡ rows_printed on t column
    (drop next rows) v → upper_rows on t column next (drop next rows) v ≡ upper_rows on t column (suc row)
    (drop (suc row) rows) w
next_suc on t column row next rows w v is h = rw is (sym (rw is at h))

pub upper_next : (on : Bool) (t : ExtraTable) (column row : ℕ) (rows : List (List ℕ)) (w v : Windows) → 0 < row
    → row < length rows → v ≡ printed_if on (shown_all t (row_units (get_or rows row []))) (next_row column w)
    → upper_rows on t column (row + 1) (drop (row + 1) rows) v ≡ upper_rows on t column row (drop row rows) w
upper_next on t column zero rows w v some h is = absurd (omega arith)
upper_next on t column (suc row) rows w v some h is =
    next_suc on t column row (suc row + 1) rows w v (omega arith) (row_on on t column (suc row) rows w v h is)

upper_past : (on : Bool) (t : ExtraTable) (column row : ℕ) (rows : List (List ℕ)) (w : Windows)
    → length rows ≤ row → upper_rows on t column row (drop row rows) w ≡ w
upper_past on t column zero [] w h = refl
upper_past on t column zero (row ∷ rows) w h = absurd (omega arith)
upper_past on t column (suc row) rows w h = rows_end on t column (suc row) rows w h

pub upper_end : (on : Bool) (t : ExtraTable) (column row : ℕ) (m : MemoryMap) (r : Rectangle) (w : Windows)
    → IsOk (rows_of m r) → row ≡ r.height → upper_rows on t column row (rest_rows m r row) w ≡ w
upper_end on t column row m r w stands end =
    let rows = ready_rows (rows_of m r) stands in
    let size = rows_length m r rows.0 rows.1 in
    rw rows.2 (upper_past on t column row rows.0 w (omega (arith, size, end)))

-- units that were printed, and those that come after them
pub units_on : (t : ExtraTable) (a b : Windows) (x y : List Unit)
    → GivesSome (λ (v w : Windows) (us : List Unit). w ≡ printed (shown_all t us) v) a b x y
    → printed (shown_all t y) b ≡ printed (shown_all t x) a
units_on t a b x y h =
    rw (h.is, shown_all-append t h.units y, printed-append (shown_all t h.units) (shown_all t y) a, h.gives) refl
