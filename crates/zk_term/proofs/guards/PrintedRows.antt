-- What is printed into the upper window.
use Rattle.std.proofs.Common.{◌≡◌, ◌≢◌, ◌∙◌, ◌+◌, ◌<◌, ◌≤◌, ◌&&◌, ℕ, zero, suc, true, false, List, [], ◌∷◌, length}
use Rattle.std.proofs.Common.{get_or, arith, ap, sym, refl, inl, inr, min, nat_le, nat_eq, if◌then◌else◌}
use Rattle.std.proofs.lemmas.Bool.{cases_Bool, cond_both, cond-true, cond-false, and_from, and_left, and_right}
use Rattle.std.proofs.lemmas.Bool.{and_parts, eq-eqb, ne_eqb, le-leb, leb-true}
use Rattle.zk_term.specs.declared.windows.Cell.{Cell}
use Rattle.zk_term.specs.Grid.{Cells, is_on_grid, cell_put}
use Rattle.zk_term.specs.Windows.{Windows, next_row, character_put, moved_right, character_printed, printed, styled}
use Rattle.zk_term.specs.guards.WindowLaws.{StandInARow, CharactersStandInARow, PrintsKeepTheSplit}
use Rattle.zk_term.specs.guards.WindowLaws.{PrintsKeepTheRowsBelow, PrintsFollowOneAnother}
use Rattle.zk_term.proofs.Grids.{at-on_grid}
use Rattle.zk_term.proofs.Rows.{on_row}

-- a cell on the grid that gets a character has it
pub put_here : (cells : Cells) (row column : ℕ) (c : Cell) → is_on_grid row column ≡ true
    → (cell_put cells row column c).at row column ≡ c
unfolding cell_put
put_here cells row column c on =
    at-on_grid (λ r q. if nat_eq r row && nat_eq q column then c else cells.at r q) row column on
    ∙ cond-true (nat_eq row row && nat_eq column column) c (cells.at row column)
    (and_from _ _ (eq-eqb row row refl) (eq-eqb column column refl))

-- and all others stay
pub put_elsewhere : (cells : Cells) (row column : ℕ) (c : Cell) (r q : ℕ) → (nat_eq r row && nat_eq q column) ≡ false
    → (cell_put cells row column c).at r q ≡ cells.at r q
unfolding cell_put
put_elsewhere cells row column c r q other = elim (cases_Bool (is_on_grid r q)) [
  | inl on ↦ at-on_grid (λ r q. if nat_eq r row && nat_eq q column then c else cells.at r q) r q on
      ∙ cond-false (nat_eq r row && nat_eq q column) c (cells.at r q) other
  | inr off ↦ (cell_put cells row column c).blank_outside r q off ∙ sym (cells.blank_outside r q off)
]

pub put_in_another_row : (cells : Cells) (row column : ℕ) (c : Cell) (r q : ℕ) → r ≢ row
    → (cell_put cells row column c).at r q ≡ cells.at r q
put_in_another_row cells row column c r q apart =
    put_elsewhere cells row column c r q (and_left _ _ (ne_eqb r row apart))

pub put_in_another_column : (cells : Cells) (row column : ℕ) (c : Cell) (r q : ℕ) → q ≢ column
    → (cell_put cells row column c).at r q ≡ cells.at r q
put_in_another_column cells row column c r q apart =
    put_elsewhere cells row column c r q (and_right _ _ (ne_eqb q column apart))

-- a character that finds a cell of the window
abbrev pub with_character : ℕ → Windows → Windows
with_character c w = record w { cells = cell_put w.cells w.row w.column (styled c w); column = w.column + 1 }

pub character_in_a_cell : (c : ℕ) (w : Windows) → c ≢ 10 → w.row ≤ w.height → w.column ≤ w.width
    → character_printed c w ≡ with_character c w
unfolding character_printed
character_in_a_cell c w other high wide =
    let put : character_put c w ≡ record w { cells = cell_put w.cells w.row w.column (styled c w) } =
    cond-true (nat_le w.row w.height && nat_le w.column w.width) _ w
    (and_from _ _ (le-leb w.row w.height high) (le-leb w.column w.width wide)) in
    let next : min (w.column + 1) (w.width + 1) ≡ w.column + 1 = omega arith in
    cond-false (nat_eq c 10) (next_row 1 w) (moved_right (character_put c w)) (ne_eqb c 10 other)
    ∙ (ap moved_right put ∙ ap (λ (n : ℕ). record w {
      cells = cell_put w.cells w.row w.column
          (styled c w);
      column = n;
    }) next)

-- a character before others that stand in a row
pub stand_more : (c : ℕ) (cs : List ℕ) (w new : Windows) → 1 ≤ w.row → w.row ≤ 255 → 1 ≤ w.column → w.column ≤ 255
    → StandInARow cs (with_character c w) new → StandInARow (c ∷ cs) w new
stand_more c cs w new row_from row_to column_from column_to rest = record {
  here = first_or_rest;
  left = λ column low. rest.left column (omega arith) ∙ put_in_another_column w.cells w.row w.column (styled c w) w.row
      column (λ e. omega arith);
  right = λ column high. rest.right column (omega arith)
      ∙ put_in_another_column w.cells w.row w.column (styled c w) w.row
      column (λ e. omega arith);
  rows = λ row column apart. rest.rows row column apart
      ∙ put_in_another_row w.cells w.row w.column (styled c w) row column apart;
  row = rest.row;
  column = omega (arith, rest.column);
}
  where
    first_or_rest : (k : ℕ) → k < length (c ∷ cs) → new.cells.at w.row (w.column + k) ≡ styled (get_or (c ∷ cs) k 0) w
    first_or_rest zero low =
        ap (new.cells.at w.row) (omega arith)
        ∙ (rest.left w.column (omega arith) ∙ put_here w.cells w.row w.column (styled c w)
        (on_row w.row w.column row_from row_to column_from column_to))
    first_or_rest (suc k) low = ap (new.cells.at w.row) (omega arith) ∙ rest.here k (omega arith)

stand_none : (w : Windows) → StandInARow [] w w
stand_none w = record {
  here = λ k low. absurd (omega arith);
  left = λ column low. refl;
  right = λ column high. refl;
  rows = λ row column apart. refl;
  row = refl;
  column = omega arith;
}

pub characters_stand_in_a_row : CharactersStandInARow
unfolding printed
characters_stand_in_a_row [] w none row_from row_to high column_from column_to wide = stand_none w
characters_stand_in_a_row (c ∷ cs) w none row_from row_to high column_from column_to wide =
    let narrow : w.column ≤ w.width = omega arith in
    let step : character_printed c w ≡ with_character c w = character_in_a_cell c w none.0 row_to narrow in
    let rest : StandInARow cs (with_character c w) (printed cs (with_character c w)) =
    characters_stand_in_a_row cs (with_character c w) none.1 row_from row_to high (omega arith) (omega arith) wide in
    rw step (stand_more c cs w (printed cs (with_character c w)) row_from (omega arith) column_from (omega arith) rest)

-- ---- what a print leaves alone

put_keeps : (c : ℕ) (w : Windows) → ((character_put c w).height ≡ w.height)
    × ((character_put c w).selected ≡ w.selected) × ((character_put c w).width ≡ w.width)
put_keeps c w =
    cond_both (nat_le w.row w.height && nat_le w.column w.width)
    (record w { cells = cell_put w.cells w.row w.column (styled c w) }) w
    (λ (v : Windows). (v.height ≡ w.height) × (v.selected ≡ w.selected) × (v.width ≡ w.width)) (λ _. (refl, refl, refl))
    (λ _. (refl, refl, refl))

character_keeps : (c : ℕ) (w : Windows) → ((character_printed c w).height ≡ w.height)
    × ((character_printed c w).selected ≡ w.selected) × ((character_printed c w).width ≡ w.width)
unfolding character_printed next_row
character_keeps c w =
    cond_both (nat_eq c 10) (next_row 1 w) (moved_right (character_put c w))
    (λ (v : Windows). (v.height ≡ w.height) × (v.selected ≡ w.selected) × (v.width ≡ w.width)) (λ _. (refl, refl, refl))
    (λ _. put_keeps c w)

pub prints_keep_the_split : PrintsKeepTheSplit
unfolding printed
prints_keep_the_split [] w = (refl, refl, refl)
prints_keep_the_split (c ∷ cs) w =
    let rest = prints_keep_the_split cs (character_printed c w) in
    let here = character_keeps c w in
    (rest.0 ∙ here.0, rest.1 ∙ here.1, rest.2 ∙ here.2)

put_keeps_below : (c : ℕ) (w : Windows) (row column : ℕ) → w.height < row
    → (character_put c w).cells.at row column ≡ w.cells.at row column
put_keeps_below c w row column low =
    cond_both (nat_le w.row w.height && nat_le w.column w.width)
    (record w { cells = cell_put w.cells w.row w.column (styled c w) }) w
    (λ (v : Windows). v.cells.at row column ≡ w.cells.at row column)
    (λ shown. put_in_another_row w.cells w.row w.column (styled c w) row column (above shown)) (λ _. refl)
  where
    above : (nat_le w.row w.height && nat_le w.column w.width) ≡ true → row ≢ w.row
    above shown e = let high : w.row ≤ w.height = leb-true w.row w.height (and_parts _ _ shown).0 in omega arith

character_keeps_below : (c : ℕ) (w : Windows) (row column : ℕ) → w.height < row
    → (character_printed c w).cells.at row column ≡ w.cells.at row column
unfolding character_printed next_row
character_keeps_below c w row column low =
    cond_both (nat_eq c 10) (next_row 1 w) (moved_right (character_put c w))
    (λ (v : Windows). v.cells.at row column ≡ w.cells.at row column) (λ _. refl)
    (λ _. put_keeps_below c w row column low)

pub prints_keep_the_rows_below : PrintsKeepTheRowsBelow
unfolding printed
prints_keep_the_rows_below [] w row column low = refl
prints_keep_the_rows_below (c ∷ cs) w row column low =
    prints_keep_the_rows_below cs (character_printed c w) row column (omega (arith, (character_keeps c w).0))
    ∙ character_keeps_below c w row column low

pub prints_follow_one_another : PrintsFollowOneAnother
unfolding printed
prints_follow_one_another [] ds w = refl
prints_follow_one_another (c ∷ cs) ds w = prints_follow_one_another cs ds (character_printed c w)
