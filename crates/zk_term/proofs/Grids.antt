-- Grids that stand in a list, the rows one after another, and what a write leaves of them.
use Rattle.std.proofs.Common.{◌≡◌, ◌≢◌, ◌∙◌, ◌*◌, ◌<◌, ◌≤◌, ◌&&◌, ℕ, Bool, true, false, List, [], length, get_or, set}
use Rattle.std.proofs.Common.{arith, ap, sym, refl, inl, inr, cond, nat_le, nat_lt, nat_eq, min, ◌⊎◌, if◌then◌else◌}
use Rattle.std.proofs.lemmas.Bool.{cases_Bool, cases_lt, cases_order, cond-true, cond-false, and_parts, and_cases}
use Rattle.std.proofs.lemmas.Bool.{and_from, and_left, and_right, eqb-true, eqb-false, eq-eqb, ne_eqb, le-leb, lt-leb}
use Rattle.std.proofs.lemmas.Bool.{lt-ltb, le-ltb}
use Rattle.std.proofs.lemmas.Grind.{get_or-set_at}
use Rattle.std.proofs.lemmas.List.{get_or-set_other}
use Rattle.zk_term.specs.declared.windows.Cell.{Cell}
use Rattle.zk_term.specs.Grid.{blank, is_on_grid, on_grid, no_cells, emptied, cell_put}
use Rattle.zk_term.specs.GridCode.{OnGrid, is_on_grid-true, same_cells}
use Rattle.zk_term.specs.Places.{cell_number, cells_of}
use Rattle.zk_term.specs.Windows.{past, rest_of_row}

pub at-on_grid : (f : ℕ → ℕ → Cell) (row column : ℕ) → is_on_grid row column ≡ true
    → (on_grid f).at row column ≡ f row column
unfolding on_grid
at-on_grid f row column on = cond-true (is_on_grid row column) (f row column) blank on

pub same_grids : (f g : ℕ → ℕ → Cell) → ((row column : ℕ) → OnGrid row column → is_on_grid row column ≡ true
    → f row column ≡ g row column) → on_grid f ≡ on_grid g
same_grids f g each = same_cells (on_grid f) (on_grid g) (λ row column on.
    at-on_grid f row column on ∙ (each row column (is_on_grid-true row column on) on
    ∙ sym (at-on_grid g row column on)))

pub at-cells_of : (items : List Cell) (row column : ℕ) → is_on_grid row column ≡ true
    → (cells_of items).at row column ≡ get_or items (cell_number row column) blank
unfolding cells_of
at-cells_of items row column on = at-on_grid (λ r q. get_or items (cell_number r q) blank) row column on

-- two cells stand at two places
same_place : (row column row' column' : ℕ) → OnGrid row column → OnGrid row' column'
    → cell_number row column ≡ cell_number row' column' → (row ≡ row') × (column ≡ column')
same_place row column row' column' a b same = (omega arith, omega arith)

-- a character put into a list is put into its cell
set_elsewhere : (items : List Cell) (row column k : ℕ) (c : Cell) (r q : ℕ) → OnGrid row column → OnGrid r q
    → k ≡ cell_number row column → (nat_eq r row && nat_eq q column) ≡ false
    → get_or (set items k c) (cell_number r q) blank ≡ get_or items (cell_number r q) blank
set_elsewhere items row column k c r q here on is other =
    let apart : cell_number r q ≢ k = λ e.
    let both = same_place r q row column on here (e ∙ is) in
    elim (and_cases (nat_eq r row) (nat_eq q column) other) [
      | inl a ↦ eqb-false r row a both.0
      | inr a ↦ eqb-false q column a both.1
    ] in
    get_or-set_other items k (cell_number r q) c blank apart

set_here : (items : List Cell) (row column k : ℕ) (c : Cell) (r q : ℕ) → k < length items → k ≡ cell_number row column
    → (nat_eq r row && nat_eq q column) ≡ true → get_or (set items k c) (cell_number r q) blank ≡ c
set_here items row column k c r q within is both =
    let parts = and_parts (nat_eq r row) (nat_eq q column) both in
    let same_row : r ≡ row = eqb-true r row parts.0 in
    let same_column : q ≡ column = eqb-true q column parts.1 in
    get_or-set_at items k (cell_number r q) c blank (omega arith) within

put_or_not : (items : List Cell) (row column k : ℕ) (c : Cell) (r q : ℕ) → k < length items → OnGrid row column
    → k ≡ cell_number row column → OnGrid r q → is_on_grid r q ≡ true
    → get_or (set items k c) (cell_number r q) blank
    ≡ cond (nat_eq r row && nat_eq q column) c ((cells_of items).at r q)
put_or_not items row column k c r q within here is place on = elim (cases_Bool (nat_eq r row && nat_eq q column)) [
  | inl both ↦ set_here items row column k c r q within is both ∙ sym (cond-true _ c ((cells_of items).at r q) both)
  | inr other ↦ set_elsewhere items row column k c r q here place is other
      ∙ (sym (at-cells_of items r q on) ∙ sym (cond-false _ c ((cells_of items).at r q) other))
]

pub cells_of-set : (items : List Cell) (row column k : ℕ) (c : Cell) → k < length items → OnGrid row column
    → k ≡ cell_number row column → cells_of (set items k c) ≡ cell_put (cells_of items) row column c
unfolding cells_of cell_put
cells_of-set items row column k c within here is =
    same_grids _ _ (λ r q place on. put_or_not items row column k c r q within here is place on)

-- lists that have the same cells
pub cells_of-same : (old new : List Cell) → ((k : ℕ) → get_or new k blank ≡ get_or old k blank) → cells_of new
    ≡ cells_of old
unfolding cells_of
cells_of-same old new given = same_grids _ _ (λ r q place on. given (cell_number r q))

-- a list of which the cells from one place up to another are blank, and the others are as before
abbrev pub AreEmptied : List Cell → List Cell → ℕ → ℕ → Type 0
AreEmptied old new from to = (k : ℕ) → get_or new k blank
    ≡ (if nat_le from k && nat_lt k to then blank else get_or old k blank)

emptied_or_not : (old new : List Cell) (from to : ℕ) (among : ℕ → ℕ → Bool) (r q : ℕ) → AreEmptied old new from to
    → is_on_grid r q ≡ true → (nat_le from (cell_number r q) && nat_lt (cell_number r q) to) ≡ among r q
    → get_or new (cell_number r q) blank ≡ cond (among r q) blank ((cells_of old).at r q)
emptied_or_not old new from to among r q given on same =
    given (cell_number r q)
    ∙ (ap (λ (b : Bool). cond b blank (get_or old (cell_number r q) blank)) same
    ∙ ap (λ (c : Cell). cond (among r q) blank c)
    (sym (at-cells_of old r q on)))

pub cells_of-emptied : (old new : List Cell) (from to : ℕ) (among : ℕ → ℕ → Bool) → AreEmptied old new from to
    → ((r q : ℕ) → OnGrid r q → (nat_le from (cell_number r q) && nat_lt (cell_number r q) to) ≡ among r q)
    → cells_of new ≡ emptied among (cells_of old)
unfolding cells_of emptied
cells_of-emptied old new from to among given same =
    same_grids _ _ (λ r q place on. emptied_or_not old new from to among r q given on (same r q place))

pub cells_of-blank : (items : List Cell) → ((k : ℕ) → k < 65025 → get_or items k blank ≡ blank) → cells_of items
    ≡ no_cells
unfolding cells_of no_cells
cells_of-blank items given =
    same_grids _ _ (λ r q place on. given (cell_number r q)
    (omega (arith, place.row_from, place.row_to, place.column_from, place.column_to)))

pub no_cells_of : cells_of [] ≡ no_cells
no_cells_of = cells_of-blank [] (λ k low. refl)

pub cells_of-all_emptied : (old new : List Cell) → AreEmptied old new 0 65025 → cells_of new ≡ no_cells
cells_of-all_emptied old new given = cells_of-blank new (λ k low.
    given k ∙ cond-true _ blank (get_or old k blank) (and_from _ _ (le-leb 0 k (omega arith)) (lt-ltb k 65025 low)))

-- the places past a height
pub past_all : (version height from r q : ℕ) → version ≡ 3 → from ≡ 0 → OnGrid r q
    → (nat_le from (cell_number r q) && nat_lt (cell_number r q) 65025) ≡ past version height r q
past_all version height from r q three none place =
    and_from _ _ (le-leb from (cell_number r q) (omega arith)) (lt-ltb (cell_number r q) 65025 (omega arith))
    ∙ sym (cond-true (nat_eq version 3) true (nat_lt height r) (eq-eqb version 3 three))

pub past_some : (version height from r q : ℕ) → version ≢ 3 → from ≡ height * 255 → OnGrid r q
    → (nat_le from (cell_number r q) && nat_lt (cell_number r q) 65025) ≡ past version height r q
past_some version height from r q other is place =
    elim (cases_lt height r) [
      | inl low ↦ and_from _ _ (le-leb from (cell_number r q) (omega arith))
          (lt-ltb (cell_number r q) 65025 (omega arith)) ∙ sym (lt-ltb height r low)
      | inr high ↦ and_left _ _ (lt-leb from (cell_number r q) (omega arith)) ∙ sym (le-ltb height r high)
    ]
    ∙ sym (cond-false (nat_eq version 3) true (nat_lt height r) (ne_eqb version 3 other))

-- the places of the rest of a row
pub rest_place : (row column from to r q : ℕ) → 1 ≤ row → 1 ≤ column → column ≤ 256 → from ≡ cell_number row column
    → to ≡ row * 255 → OnGrid r q → (nat_le from (cell_number r q) && nat_lt (cell_number r q) to) ≡ rest_of_row
    row column r q
rest_place row column from to r q row_from column_from column_to from_is to_is place =
    elim (cases_order r row) [
      | inl same ↦ elim (cases_lt q column) [
        | inl before ↦ and_left _ _ (lt-leb from (cell_number r q) (omega arith))
            ∙ sym (and_right (nat_eq r row) _ (lt-leb column q before))
        | inr behind ↦ and_from _ _ (le-leb from (cell_number r q) (omega arith))
            (lt-ltb (cell_number r q) to (omega arith))
            ∙ sym (and_from _ _ (eq-eqb r row same) (le-leb column q behind))
      ]
      | inr apart ↦ elim apart [
        | inl above ↦ and_left _ _ (lt-leb from (cell_number r q) (omega arith))
            ∙ sym (and_left _ (nat_le column q) (ne_eqb r row (λ e. omega arith)))
        | inr below ↦ and_right (nat_le from (cell_number r q)) _ (le-ltb (cell_number r q) to (omega arith))
            ∙ sym (and_left _ (nat_le column q) (ne_eqb r row (λ e. omega arith)))
      ]
    ]

-- a loop that empties has come to its end, or had nothing to empty
emptied_below : (from end to k j n : ℕ) → end ≡ min to n → end ≤ k → (k ≤ end) ⊎ (k ≡ from) → j < n → from ≤ j
    → nat_lt j k ≡ nat_lt j to
emptied_below from end to k j n is done reached low behind = elim (cases_lt j to) [
  | inl inside ↦ lt-ltb j k (omega arith) ∙ sym (lt-ltb j to inside)
  | inr outside ↦ elim reached [
    | inl at_end ↦ le-ltb j k (omega arith) ∙ sym (le-ltb j to outside)
    | inr at_start ↦ le-ltb j k (omega arith) ∙ sym (le-ltb j to outside)
  ]
]

pub emptied_end : (from end to k j n : ℕ) → end ≡ min to n → end ≤ k → (k ≤ end) ⊎ (k ≡ from) → j < n
    → (nat_le from j && nat_lt j k) ≡ (nat_le from j && nat_lt j to)
emptied_end from end to k j n is done reached low = elim (cases_lt j from) [
  | inl before ↦ and_left _ _ (lt-leb from j before) ∙ sym (and_left _ _ (lt-leb from j before))
  | inr behind ↦ ap (λ (b : Bool). nat_le from j && b) (emptied_below from end to k j n is done reached low behind)
]

pub reached_end : (from end k : ℕ) → (from ≤ end → k ≤ end) → (end ≤ from → k ≡ from) → (k ≤ end) ⊎ (k ≡ from)
reached_end from end k within none =
    elim (cases_lt end from) [ inl past ↦ inr (none (omega arith)) | inr some ↦ inl (within some) ]
