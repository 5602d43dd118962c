-- How the logic stores a grid: as the lists of its rows. No clause reads these words, so a reader can skip them.
use Rattle.std.specs.Prelude.{◌≡◌, ℕ, ◌-◌, ◌≤◌, Bool, true, false, List, [], map, nat_le, ◌&&◌, cond}
use Rattle.std.specs.List.{range_with_len}
use Rattle.std.specs.Coded.{Coded, Coded-set, code_by, coded×, coded_ℕ, coded_bool, coded_list, Π_prop}
use Rattle.std.proofs.Common.{arith, ap, sym, ◌∙◌, inl, inr, get_or, refl}
use Rattle.std.proofs.Math.Path.{fun_ext}
use Rattle.std.proofs.lemmas.Bool.{cases_Bool, and_parts, leb-true}
use Rattle.std.proofs.lemmas.List.FromFn.{get_or-map-range_with_len}
use base.Stored.{coded_via}
use mathlib.Core.HLevel.{is_prop→PathP}
use Rattle.zk_term.specs.Grid.{Cells, is_on_grid, blank}
use Rattle.zk_term.specs.declared.style.Style.{Style}
use Rattle.zk_term.specs.declared.windows.Cell.{Cell}
use Rattle.zk_term.specs.declared.windows.Window.{Window}
use Rattle.zk_term.specs.declared.windows.Window.TheVariants.{Lower, Upper}
use Rattle.zk_term.specs.Windows.{Windows}

abbrev style_code : Coded Style
style_code =
    code_by (Bool × (Bool × (Bool × Bool))) (coded× coded_bool (coded× coded_bool (coded× coded_bool coded_bool)))
    (λ s. (s.reverse, (s.bold, (s.italic, s.fixed))))
    (λ p. record { reverse = p.0; bold = p.1.0; italic = p.1.1.0; fixed = p.1.1.1 }) (λ _. refl)

abbrev cell_code : Coded Cell
cell_code =
    code_by (ℕ × Style) (coded× coded_ℕ style_code) (λ c. (c.character, c.style))
    (λ p. record { character = p.0; style = p.1 }) (λ _. refl)

-- two grids are the same where all their cells are
pub same_cells : (a b : Cells) → ((row column : ℕ) → is_on_grid row column ≡ true
    → a.at row column ≡ b.at row column) → a ≡ b
same_cells a b each =
    let whole : (row column : ℕ) → a.at row column ≡ b.at row
    column = λ row column. elim (cases_Bool (is_on_grid row column)) [
      | inl on ↦ each row column on
      | inr off ↦ a.blank_outside row column off ∙ sym (b.blank_outside row column off)
    ] in
    let p : a.at ≡ b.at = fun_ext (λ row. fun_ext (λ column. whole row column)) in
    λ i. record {
      at = p i;
      blank_outside = is_prop→PathP (λ j. (row column : ℕ) → is_on_grid row column ≡ false → p j row column ≡ blank)
          (λ j. Π_prop (λ row. Π_prop (λ column. Π_prop
          (λ _. Coded-set cell_code (p j row column) blank)))) a.blank_outside
          b.blank_outside i;
    }

-- what is known of a place on the grid
pub record OnGrid (row column : ℕ) : Type 0 where
  pub row_from : 1 ≤ row
  pub row_to : row ≤ 255
  pub column_from : 1 ≤ column
  pub column_to : column ≤ 255

pub is_on_grid-true : (row column : ℕ) → is_on_grid row column ≡ true → OnGrid row column
is_on_grid-true row column on =
    let outer = and_parts (nat_le 1 row && nat_le row 255 && nat_le 1 column) (nat_le column 255) on in
    let middle = and_parts (nat_le 1 row && nat_le row 255) (nat_le 1 column) outer.0 in
    let inner = and_parts (nat_le 1 row) (nat_le row 255) middle.0 in
    record {
      row_from = leb-true _ _ inner.0;
      row_to = leb-true _ _ inner.1;
      column_from = leb-true _ _ middle.1;
      column_to = leb-true _ _ outer.1;
    }

row_of : Cells → ℕ → List Cell
row_of cells row = map (cells.at row) (range_with_len 1 255)

-- all rows, each a list of its 255 cells
pub rows_of : Cells → List (List Cell)
rows_of cells = map (row_of cells) (range_with_len 1 255)

row_at : (cells : Cells) (row : ℕ) → 1 ≤ row → row ≤ 255 → get_or (rows_of cells) (row - 1) [] ≡ row_of cells row
unfolding rows_of
row_at cells row from to = get_or-map-range_with_len (row_of cells) 1 255 (row - 1) row [] (omega arith) (omega arith)

cell_at : (cells : Cells) (row column : ℕ) → 1 ≤ column → column ≤ 255
    → get_or (row_of cells row) (column - 1) blank ≡ cells.at row column
unfolding row_of
cell_at cells row column from to =
    get_or-map-range_with_len (cells.at row) 1 255 (column - 1) column blank (omega arith) (omega arith)

-- two grids of the same rows are the same
pub same_rows : (a b : Cells) → rows_of a ≡ rows_of b → a ≡ b
same_rows a b same = same_cells a b (λ row column on.
    let g = is_on_grid-true row column on in
    let rows : row_of a row ≡ row_of b row = sym (row_at a row g.row_from g.row_to)
    ∙ (ap (λ (rs : List (List Cell)). get_or rs (row - 1) []) same ∙ row_at b row g.row_from g.row_to) in
    sym (cell_at a row column g.column_from g.column_to)
    ∙ (ap (λ (r : List Cell). get_or r (column - 1) blank) rows ∙ cell_at b row column g.column_from g.column_to))

-- a grid is stored as its rows
abbrev pub cells_code : Coded Cells
cells_code = coded_via (coded_list (coded_list cell_code)) rows_of same_rows

abbrev is_upper : Window → Bool
is_upper Lower = false
is_upper Upper = true

pub window_back : (w : Window) → cond (is_upper w) Upper Lower ≡ w
window_back Lower = refl
window_back Upper = refl

abbrev window_code : Coded Window
window_code = code_by Bool coded_bool is_upper (λ b. cond b Upper Lower) window_back

-- the windows are stored field by field
abbrev pub windows_code : Coded Windows
windows_code =
    code_by (Cells × (ℕ × (ℕ × (ℕ × (ℕ × (Window × (Style × (Bool × (Cells × ℕ)))))))))
    (coded× cells_code
    (coded× coded_ℕ (coded× coded_ℕ (coded× coded_ℕ (coded× coded_ℕ (coded× window_code (coded× style_code
    (coded× coded_bool (coded× cells_code coded_ℕ)))))))))
    (λ w. (
      w.cells,
      (
        w.height,
        (
          w.width,
          (
            w.row,
            (w.column, (w.selected, (w.style, (w.fixed_font, (w.gone, w.gone_height))))),
          ),
        ),
      ),
    ))
    (λ p. record {
      cells = p.0;
      height = p.1.0;
      width = p.1.1.0;
      row = p.1.1.1.0;
      column = p.1.1.1.1.0;
      selected = p.1.1.1.1.1.0;
      style = p.1.1.1.1.1.1.0;
      fixed_font = p.1.1.1.1.1.1.1.0;
      gone = p.1.1.1.1.1.1.1.1.0;
      gone_height = p.1.1.1.1.1.1.1.1.1;
    })
    (λ _. refl)
