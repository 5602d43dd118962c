-- Splits, erasures and the cursor.
use Rattle.std.proofs.Common.{◌≡◌, ◌≢◌, ◌∙◌, ◌+◌, ◌<◌, ◌≤◌, ◌&&◌, ℕ, Bool, true, false, List, [], ◌∷◌, ◌++◌, suc}
use Rattle.std.proofs.Common.{arith, ap}
use Rattle.std.proofs.Common.{sym, refl, inl, inr, cond, min, nat_le, nat_lt, nat_eq, if◌then◌else◌}
use Rattle.std.proofs.lemmas.Bool.{cases_Bool, cond_both, cond-true, cond-false, eq-eqb, ne_eqb, eqb-true, eqb-false}
use Rattle.std.proofs.lemmas.Bool.{lt-ltb, le-ltb}
use Rattle.zk_term.specs.declared.windows.Cell.{Cell}
use Rattle.zk_term.specs.declared.windows.Window.{Window}
use Rattle.zk_term.specs.declared.windows.Window.TheVariants.{Lower, Upper}
use Rattle.zk_term.specs.Grid.{Cells, blank, is_on_grid, no_cells, emptied, cell_put}
use Rattle.zk_term.specs.Windows.{Windows, first_windows, homed, homed_below, past, kept_if_lower, with_height, split}
use Rattle.zk_term.specs.Windows.{window_selected, cleared, unsplit, line_erased, cursor_set, next_row, character_put}
use Rattle.zk_term.specs.Windows.{moved_right, character_printed, printed, before_blanks, without_last}
use Rattle.zk_term.specs.Windows.{is_space, row_cells, row_text, styled}
use Rattle.zk_term.specs.guards.WindowLaws.{IsSplit, SplitsEmptyThePast, IsNearTheGrid, KeepsTheCursor}
use Rattle.zk_term.specs.guards.WindowLaws.{IsWithoutLastSpaces, SpacesAtTheEndGo, ClearedRowsHaveNoText}
use Rattle.zk_term.proofs.Grids.{at-on_grid}
use Rattle.zk_term.proofs.Rows.{no_text_in, no_cells_in}

-- ---- cells that are emptied

pub at-no_cells : (row column : ℕ) → no_cells.at row column ≡ blank
unfolding no_cells
at-no_cells row column = elim (cases_Bool (is_on_grid row column)) [
  | inl on ↦ at-on_grid (λ r q. blank) row column on
  | inr off ↦ no_cells.blank_outside row column off
]

pub at-emptied : (among : ℕ → ℕ → Bool) (cells : Cells) (row column : ℕ)
    → (emptied among cells).at row column ≡ cond (among row column) blank (cells.at row column)
unfolding emptied
at-emptied among cells row column = elim (cases_Bool (is_on_grid row column)) [
  | inl on ↦ at-on_grid (λ r q. if among r q then blank else cells.at r q) row column on
  | inr off ↦ (emptied among cells).blank_outside row column off
      ∙ sym (cond_both (among row column) blank (cells.at row column) (λ (c : Cell). c ≡ blank) (λ _. refl)
      (λ _. cells.blank_outside row column off))
]

pub emptied_there : (among : ℕ → ℕ → Bool) (cells : Cells) (row column : ℕ) → among row column ≡ true
    → (emptied among cells).at row column ≡ blank
emptied_there among cells row column there =
    at-emptied among cells row column ∙ cond-true (among row column) blank (cells.at row column) there

pub emptied_elsewhere : (among : ℕ → ℕ → Bool) (cells : Cells) (row column : ℕ) → among row column ≡ false
    → (emptied among cells).at row column ≡ cells.at row column
emptied_elsewhere among cells row column other =
    at-emptied among cells row column ∙ cond-false (among row column) blank (cells.at row column) other

-- ---- splits

past_in_3 : (version height row column : ℕ) → version ≡ 3 → past version height row column ≡ true
past_in_3 version height row column three =
    cond-true (nat_eq version 3) true (nat_lt height row) (eq-eqb version 3 three)

past_below : (version height row column : ℕ) → height < row → past version height row column ≡ true
past_below version height row column low =
    cond_both (nat_eq version 3) true (nat_lt height row) (λ (b : Bool). b ≡ true) (λ _. refl)
    (λ _. lt-ltb height row low)

not_past : (version height row column : ℕ) → version ≢ 3 → row ≤ height → past version height row column ≡ false
not_past version height row column other high =
    cond-false (nat_eq version 3) true (nat_lt height row) (ne_eqb version 3 other) ∙ le-ltb height row high

-- a window that is kept stays as it is
kept_stays : (height : ℕ) (w : Windows) → ((kept_if_lower height w).cells ≡ w.cells)
    × ((kept_if_lower height w).selected ≡ w.selected)
kept_stays height w =
    cond_both (nat_lt height w.height && nat_le w.gone_height w.height)
    (record w { gone = w.cells; gone_height = w.height }) w
    (λ (v : Windows). (v.cells ≡ w.cells) × (v.selected ≡ w.selected)) (λ _. (refl, refl)) (λ _. (refl, refl))

is_split : (version lines : ℕ) (w v : Windows) → v.cells ≡ w.cells → v.selected ≡ w.selected
    → IsSplit version lines w (homed_below (min lines 255) (with_height version (min lines 255) v))
is_split version lines w v cells selected =
    cond_both (nat_lt (min lines 255) v.row) (homed wider) wider (IsSplit version lines w) (λ _. whole) (λ _. whole')
  where
    wider : Windows
    wider = with_height version (min lines 255) v

    kept_there : version ≢ 3 → (row column : ℕ) → row ≤ min lines 255
        → wider.cells.at row column ≡ w.cells.at row column
    kept_there other row column high =
        emptied_elsewhere (past version (min lines 255)) v.cells row column
        (not_past version (min lines 255) row column other high)
        ∙ ap (λ (all : Cells). all.at row column) cells

    past_there : (row column : ℕ) → min lines 255 < row → wider.cells.at row column ≡ blank
    past_there row column low = emptied_there (past version (min lines 255)) v.cells row column
        (past_below version (min lines 255) row column low)

    all_there : version ≡ 3 → (row column : ℕ) → wider.cells.at row column ≡ blank
    all_there three row column = emptied_there (past version (min lines 255)) v.cells row column
        (past_in_3 version (min lines 255) row column three)

    whole : IsSplit version lines w (homed wider)
    whole = record { height = refl; selected = selected; kept = kept_there; past = past_there; all = all_there }

    whole' : IsSplit version lines w wider
    whole' = record { height = refl; selected = selected; kept = kept_there; past = past_there; all = all_there }

pub splits_empty_the_past : SplitsEmptyThePast
unfolding split
splits_empty_the_past version lines w =
    let same = kept_stays (min lines 255) w in
    is_split version lines w (kept_if_lower (min lines 255) w) same.0 same.1

-- ---- the cursor

at_home : (w : Windows) → IsNearTheGrid (homed w)
at_home w = record { row_from = omega arith; row_to = omega arith; column_from = omega arith; column_to = omega arith }

near_first : (width : ℕ) → IsNearTheGrid (first_windows width)
unfolding first_windows
near_first width = record {
  row_from = omega arith;
  row_to = omega arith;
  column_from = omega arith;
  column_to =
      omega arith;
}

near_kept : (height : ℕ) (w : Windows) → IsNearTheGrid w → IsNearTheGrid (kept_if_lower height w)
near_kept height w near =
    cond_both (nat_lt height w.height && nat_le w.gone_height w.height)
    (record w { gone = w.cells; gone_height = w.height }) w IsNearTheGrid
    (λ _. record {
      row_from = near.row_from;
      row_to = near.row_to;
      column_from = near.column_from;
      column_to = near.column_to;
    }) (λ _. near)

near_split : (version lines : ℕ) (w : Windows) → IsNearTheGrid w → IsNearTheGrid (split version lines w)
unfolding split
near_split version lines w near =
    let wider : Windows = with_height version (min lines 255) (kept_if_lower (min lines 255) w) in
    let kept = near_kept (min lines 255) w near in
    cond_both (nat_lt (min lines 255) wider.row) (homed wider) wider IsNearTheGrid
    (λ _. at_home wider) (λ _. record {
      row_from = kept.row_from;
      row_to = kept.row_to;
      column_from = kept.column_from;
      column_to = kept.column_to;
    })

near_selected : (window : Window) (w : Windows) → IsNearTheGrid w → IsNearTheGrid (window_selected window w)
unfolding window_selected
near_selected Lower w near =
    record {
      row_from = near.row_from;
      row_to = near.row_to;
      column_from = near.column_from;
      column_to = near.column_to;
    }
near_selected Upper w near = at_home (record w { selected = Upper })

near_cleared : (w : Windows) → IsNearTheGrid (cleared w)
unfolding cleared
near_cleared w = at_home (record w { cells = no_cells })

near_unsplit : (w : Windows) → IsNearTheGrid (unsplit w)
unfolding unsplit cleared
near_unsplit w =
    record { row_from = omega arith; row_to = omega arith; column_from = omega arith; column_to = omega arith }

near_erased : (w : Windows) → IsNearTheGrid w → IsNearTheGrid (line_erased w)
unfolding line_erased
near_erased w near = record {
  row_from = near.row_from;
  row_to = near.row_to;
  column_from = near.column_from;
  column_to = near.column_to;
}

near_set : (row column : ℕ) (w : Windows) → IsNearTheGrid (cursor_set row column w)
unfolding cursor_set
near_set row column w =
    record { row_from = omega arith; row_to = omega arith; column_from = omega arith; column_to = omega arith }

near_next_row : (column : ℕ) (w : Windows) → 1 ≤ column → column ≤ w.width + 1 → IsNearTheGrid w
    → IsNearTheGrid (next_row column w)
unfolding next_row
near_next_row column w from to near =
    record { row_from = omega arith; row_to = omega arith; column_from = from; column_to = to }

near_put : (c : ℕ) (w : Windows) → IsNearTheGrid w → IsNearTheGrid (character_put c w)
near_put c w near =
    cond_both (nat_le w.row w.height && nat_le w.column w.width)
    (record w { cells = cell_put w.cells w.row w.column (styled c w) }) w IsNearTheGrid
    (λ _. record {
      row_from = near.row_from;
      row_to = near.row_to;
      column_from = near.column_from;
      column_to = near.column_to;
    }) (λ _. near)

near_moved : (w : Windows) → IsNearTheGrid w → IsNearTheGrid (moved_right w)
near_moved w near =
    record { row_from = near.row_from; row_to = near.row_to; column_from = omega arith; column_to = omega arith }

near_character : (c : ℕ) (w : Windows) → IsNearTheGrid w → IsNearTheGrid (character_printed c w)
unfolding character_printed
near_character c w near =
    cond_both (nat_eq c 10) (next_row 1 w) (moved_right (character_put c w)) IsNearTheGrid
    (λ _. near_next_row 1 w (omega arith) (omega arith) near) (λ _. near_moved (character_put c w) (near_put c w near))

near_printed : (cs : List ℕ) (w : Windows) → IsNearTheGrid w → IsNearTheGrid (printed cs w)
unfolding printed
near_printed [] w near = near
near_printed (c ∷ cs) w near = near_printed cs (character_printed c w) (near_character c w near)

pub keeps_the_cursor : KeepsTheCursor
keeps_the_cursor = record {
  first = near_first;
  split = near_split;
  selected = near_selected;
  cleared = near_cleared;
  unsplit = near_unsplit;
  line_erased = near_erased;
  set = near_set;
  next_row = near_next_row;
  printed = near_printed;
}

-- ---- texts of rows

no_end : (x : ℕ) (front : List ℕ) → [] ≡ front ++ x ∷ [] → ⊥
no_end x [] e = cc
no_end x (y ∷ ys) e = cc

other_end : (c : ℕ) → c ≢ 32 → (front : List ℕ) → c ∷ [] ≡ front ++ 32 ∷ [] → ⊥
other_end c other [] e = other cc
other_end c other (x ∷ xs) e = no_end 32 xs cc

later_end : (c d : ℕ) (ds : List ℕ) → ((front : List ℕ) → d ∷ ds ≡ front ++ 32 ∷ [] → ⊥) → (front : List ℕ)
    → c ∷ d ∷ ds ≡ front ++ 32 ∷ [] → ⊥
later_end c d ds ending [] e = cc
later_end c d ds ending (x ∷ xs) e = ending xs cc

spaces_before : (c : ℕ) (text cs : List ℕ) → IsWithoutLastSpaces text cs
    → IsWithoutLastSpaces (before_blanks is_space c text) (c ∷ cs)
spaces_before c [] cs rest =
    cond_both (nat_eq c 32) [] (c ∷ []) (λ (text : List ℕ). IsWithoutLastSpaces text (c ∷ cs))
    (λ is. let same : c ≡ 32 = eqb-true c 32 is in
    record {
      spaces = suc rest.spaces;
      rest = ap (λ (d : ℕ). d ∷ cs) same
          ∙ ap (λ (ds : List ℕ). 32 ∷ ds) rest.rest;
      ending = no_end 32;
    })
    (λ other. record {
      spaces = rest.spaces;
      rest = ap (λ (ds : List ℕ). c ∷ ds) rest.rest;
      ending = other_end c (eqb-false c 32 other);
    })
spaces_before c (d ∷ ds) cs rest = record {
  spaces = rest.spaces;
  rest = ap (λ (es : List ℕ). c ∷ es) rest.rest;
  ending = later_end c d ds rest.ending;
}

pub spaces_at_the_end_go : SpacesAtTheEndGo
unfolding without_last
spaces_at_the_end_go [] = record { spaces = 0; rest = refl; ending = no_end 32 }
spaces_at_the_end_go (c ∷ cs) = spaces_before c (without_last is_space cs) cs (spaces_at_the_end_go cs)

pub cleared_rows_have_no_text : ClearedRowsHaveNoText
unfolding row_text row_cells cleared
cleared_rows_have_no_text w row =
    (no_text_in no_cells row (at-no_cells row), no_cells_in no_cells row (at-no_cells row))
