-- Rows of a grid as texts.
use Rattle.std.proofs.Common.{◌≡◌, ◌∙◌, ◌+◌, ◌-◌, ◌*◌, ◌<◌, ◌≤◌, ℕ, Bool, zero, suc, true, false, List, [], ◌∷◌, ◌++◌}
use Rattle.std.proofs.Common.{length, get_or, map, take, drop, arith, ap, sym, refl, inl, inr, length-take-le}
use Rattle.std.proofs.Common.{length-drop}
use Rattle.std.proofs.lemmas.Bool.{cases_Bool, cond-true, cond-false, and_from, le-leb}
use Rattle.std.proofs.lemmas.List.{take_more, get_or-take, get_or-drop}
use Rattle.std.proofs.lemmas.Simd.{map-map}
use Rattle.zk_term.specs.declared.windows.Cell.{Cell}
use Rattle.zk_term.specs.Grid.{Cells, blank, is_blank, is_on_grid}
use Rattle.zk_term.specs.Places.{cell_number, cells_of}
use Rattle.zk_term.specs.Styles.{roman}
use Rattle.zk_term.specs.Windows.{before_blanks, without_last, columns_from, is_space, character_of, row_text_of}
use Rattle.zk_term.specs.Windows.{row_cells_of}
use Rattle.zk_term.proofs.Blanks.{IsBlankFrom}
use Rattle.zk_term.proofs.Grids.{at-cells_of}

-- what is read past the end of a row
abbrev pub any_cell : Cell
any_cell = record { character = 0; style = roman }

-- ---- lists without the blank items at their end

module _ {A : Type 0} (empty : A → Bool) where
  -- a blank item at the end goes
  last_blank : (xs : List A) (c : A) → empty c ≡ true → without_last empty (xs ++ c ∷ []) ≡ without_last empty xs
  unfolding without_last
  last_blank [] c is = cond-true (empty c) [] (c ∷ []) is
  last_blank (x ∷ xs) c is = ap (before_blanks empty x) (last_blank xs c is)

  before_some : (x c : A) (xs : List A) → before_blanks empty x (xs ++ c ∷ []) ≡ x ∷ (xs ++ c ∷ [])
  before_some x c [] = refl
  before_some x c (y ∷ ys) = refl

  -- with another one at its end it stays
  last_other : (xs : List A) (c : A) → empty c ≡ false → without_last empty (xs ++ c ∷ []) ≡ xs ++ c ∷ []
  unfolding without_last
  last_other [] c other = cond-false (empty c) [] (c ∷ []) other
  last_other (x ∷ xs) c other = ap (before_blanks empty x) (last_other xs c other) ∙ before_some x c xs

  last_of : (row : List A) (end : ℕ) (d : A) → 0 < end → end ≤ length row
      → take end row ≡ take (end - 1) row ++ get_or row (end - 1) d ∷ []
  last_of row end d some within =
      let last : take (end - 1 + 1) row ≡ take (end - 1) row ++ get_or row (end - 1) d
      ∷ [] = take_more row (end - 1) d (omega arith) in
      let here : end - 1 + 1 ≡ end = omega arith in
      ap (λ (n : ℕ). take n row) (sym here) ∙ last

  -- the loop that looks for the end of a row
  pub end_back : (row : List A) (end : ℕ) (d : A) → 0 < end → end ≤ length row → empty (get_or row (end - 1) d) ≡ true
      → without_last empty (take (end - 1) row) ≡ without_last empty (take end row)
  end_back row end d some within is =
      sym (ap (without_last empty) (last_of row end d some within)
      ∙ last_blank (take (end - 1) row) (get_or row (end - 1) d) is)

  pub end_found : (row : List A) (end : ℕ) (d : A) → 0 < end → end ≤ length row → empty (get_or row (end - 1) d) ≡ false
      → take end row ≡ without_last empty (take end row)
  end_found row end d some within other =
      let cut = last_of row end d some within in
      cut ∙ sym (ap (without_last empty) cut ∙ last_other (take (end - 1) row) (get_or row (end - 1) d) other)

  pub end_none : (row : List A) (end : ℕ) → end ≡ 0 → take end row ≡ without_last empty (take end row)
  unfolding without_last
  end_none row end none = ap (λ (n : ℕ). take n row) none
      ∙ sym (ap (λ (n : ℕ). without_last empty (take n row)) none)

  pub none_left : without_last empty [] ≡ []
  unfolding without_last
  none_left = refl

  -- nothing is left of blank items
  pub no_items : (f : ℕ → A) → ((k : ℕ) → empty (f k) ≡ true) → (ks : List ℕ) → without_last empty (map f ks) ≡ []
  unfolding without_last
  no_items f all [] = refl
  no_items f all (k ∷ ks) = ap (before_blanks empty (f k)) (no_items f all ks)
      ∙ cond-true (empty (f k)) [] (f k ∷ []) (all k)

-- items that a function gives by their columns
pub same_columns : (f : ℕ → Cell) (xs : List Cell) (from n : ℕ) → length xs ≡ n
    → ((k : ℕ) → k < n → get_or xs k blank ≡ f (from + k)) → xs ≡ map f (columns_from from n)
unfolding columns_from
same_columns f [] from zero long each = refl
same_columns f [] from (suc n) long each = absurd (omega arith)
same_columns f (x ∷ xs) from zero long each = absurd (omega arith)
same_columns f (x ∷ xs) from (suc n) long each =
    let head : x ≡ f from = each 0 (omega arith) ∙ ap f (omega arith) in
    let rest : xs ≡ map f (columns_from (from + 1) n) = same_columns f xs (from + 1) n (omega arith)
    (λ k low. each (suc k) (omega arith) ∙ ap f (omega arith)) in
    cc

pub on_row : (row column : ℕ) → 1 ≤ row → row ≤ 255 → 1 ≤ column → column ≤ 255 → is_on_grid row column ≡ true
on_row row column row_from row_to column_from column_to =
    and_from _ _ (and_from _ _ (and_from _ _ (le-leb 1 row row_from) (le-leb row 255 row_to))
    (le-leb 1 column column_from)) (le-leb column 255 column_to)

row_item : (items : List Cell) (row start k : ℕ) → 1 ≤ row → row ≤ 255 → start ≡ cell_number row 1 → k < 255
    → get_or (take 255 (drop start items)) k blank ≡ (cells_of items).at row (1 + k)
row_item items row start k from to is low =
    let there : start + k ≡ cell_number row (1 + k) = omega arith in
    get_or-take 255 (drop start items) k blank low
    ∙ (get_or-drop start items k blank ∙ (ap (λ (n : ℕ). get_or items n blank) there
    ∙ sym (at-cells_of items row (1 + k) (on_row row (1 + k) from to (omega arith) (omega arith)))))

-- the items of a row, by the cells
pub row_items : (items : List Cell) (row start : ℕ) → row * 255 ≤ length items → 1 ≤ row → row ≤ 255
    → start ≡ cell_number row 1 → take 255 (drop start items) ≡ map ((cells_of items).at row) (columns_from 1 255)
row_items items row start long from to is =
    same_columns ((cells_of items).at row) (take 255 (drop start items)) 1 255
    (length-take-le 255 (drop start items) (omega (arith, length-drop start items)))
    (λ k low. row_item items row start k from to is low)

-- the rows past those that are shown are blank
blank_row : (items : List Cell) (height row column : ℕ) → IsBlankFrom (height * 255) items → height < row
    → (cells_of items).at row column ≡ blank
blank_row items height row column none low = elim (cases_Bool (is_on_grid row column)) [
  | inl on ↦ at-cells_of items row column on ∙ none (cell_number row column) (omega arith)
  | inr off ↦ (cells_of items).blank_outside row column off
]

-- a grid's row that is blank has no cell and no text
pub no_cells_in : (cells : Cells) (row : ℕ) → ((column : ℕ) → cells.at row column ≡ blank) → row_cells_of cells row ≡ []
no_cells_in cells row all =
    no_items is_blank (cells.at row) (λ k. ap is_blank (all k)) (columns_from 1 255)

pub no_text_in : (cells : Cells) (row : ℕ) → ((column : ℕ) → cells.at row column ≡ blank) → row_text_of cells row ≡ []
no_text_in cells row all =
    ap (without_last is_space) (map-map character_of (cells.at row) (columns_from 1 255))
    ∙ no_items is_space (λ k. character_of (cells.at row k)) (λ k. ap (λ (c : Cell). is_space (character_of c)) (all k))
    (columns_from 1 255)

pub no_row_cells : (items : List Cell) (height row : ℕ) → IsBlankFrom (height * 255) items → height < row
    → row_cells_of (cells_of items) row ≡ []
no_row_cells items height row none low =
    no_cells_in (cells_of items) row (λ column. blank_row items height row column none low)

pub no_row_text : (items : List Cell) (height row : ℕ) → IsBlankFrom (height * 255) items → height < row
    → row_text_of (cells_of items) row ≡ []
no_row_text items height row none low =
    no_text_in (cells_of items) row (λ column. blank_row items height row column none low)
