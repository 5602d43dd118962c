-- The tallest grid, before and after the window becomes lower.
use Rattle.std.proofs.Common.{◌≡◌, ◌∙◌, ◌<◌, ◌≤◌, ◌&&◌, ◌⊎◌, ℕ, true, false, arith, ap, sym, refl, inl, inr, max, min}
use Rattle.std.proofs.Common.{nat_le, nat_lt}
use Rattle.std.proofs.lemmas.Bool.{cond_both, cond-true, cond-false, and_parts, and_cases, leb-true, leb-false}
use Rattle.std.proofs.lemmas.Bool.{ltb-true, ltb-false, lt-ltb, le-ltb}
use Rattle.zk_term.specs.Grid.{Cells}
use Rattle.zk_term.specs.Windows.{Windows, homed, kept_if_lower, with_height, split, cleared, unsplit, forgotten}
use Rattle.zk_term.specs.Windows.{row_text_of, row_text, tallest_height, tallest_row_text}
use Rattle.zk_term.specs.guards.WindowLaws.{KeepsTheTallest}

-- which grid the rows are told of
row_of_gone : (w : Windows) (row : ℕ) → w.height < w.gone_height → tallest_row_text w row ≡ row_text_of w.gone row
unfolding tallest_row_text
row_of_gone w row low = cond-true _ (row_text_of w.gone row) (row_text w row) (lt-ltb w.height w.gone_height low)

row_of_window : (w : Windows) (row : ℕ) → w.gone_height ≤ w.height → tallest_row_text w row ≡ row_text_of w.cells row
unfolding tallest_row_text row_text
row_of_window w row high = cond-false _ (row_text_of w.gone row) (row_text w row) (le-ltb w.height w.gone_height high)

-- what has stood in a window is gone, since the height is lower
record IsGone (height : ℕ) (old new : Windows) : Type 0 where
  lower : height < old.height
  tallest : old.gone_height ≤ old.height
  gone : new.gone ≡ old.cells
  gone_height : new.gone_height ≡ old.height

-- what was gone before still is
record IsGoneStill (height : ℕ) (old new : Windows) : Type 0 where
  higher : (old.height ≤ height) ⊎ (old.height < old.gone_height)
  gone : new.gone ≡ old.gone
  gone_height : new.gone_height ≡ old.gone_height

abbrev OneIsGone : ℕ → Windows → Windows → Type 0
OneIsGone height old new = IsGone height old new ⊎ IsGoneStill height old new

one_is_gone : (height : ℕ) (w : Windows) → OneIsGone height w (kept_if_lower height w)
one_is_gone height w =
    cond_both (nat_lt height w.height && nat_le w.gone_height w.height)
    (record w { gone = w.cells; gone_height = w.height }) w (OneIsGone height w)
    (λ both. inl (lower both)) (λ other. inr (record { higher = higher other; gone = refl; gone_height = refl }))
  where
    lower : (nat_lt height w.height && nat_le w.gone_height w.height) ≡ true
        → IsGone height w (record w { gone = w.cells; gone_height = w.height })
    lower both =
        let parts = and_parts _ _ both in
        record {
          lower = ltb-true height w.height parts.0;
          tallest = leb-true w.gone_height w.height parts.1;
          gone = refl;
          gone_height = refl;
        }

    higher : (nat_lt height w.height && nat_le w.gone_height w.height) ≡ false
        → (w.height ≤ height) ⊎ (w.height < w.gone_height)
    higher other =
        elim (and_cases _ _ other) [
          | inl a ↦ inl (ltb-false height w.height a)
          | inr b ↦ inr (leb-false w.gone_height w.height b)
        ]

-- heights and rows, where one of the two is gone and the window has the height
heights : (height : ℕ) (old new : Windows) → new.height ≡ height → OneIsGone height old new
    → tallest_height new ≡ max height (tallest_height old)
unfolding tallest_height
heights height old new is (inl g) = omega (arith, g.lower, g.tallest, g.gone_height)
heights height old new is (inr g) =
    elim g.higher [ inl a ↦ omega (arith, g.gone_height) | inr b ↦ omega (arith, g.gone_height) ]

rows : (height : ℕ) (old new : Windows) (row : ℕ) → new.height ≡ height → OneIsGone height old new
    → height < tallest_height old → tallest_row_text new row ≡ tallest_row_text old row
unfolding tallest_height
rows height old new row is (inl g) low =
    row_of_gone new row (omega (arith, g.lower, g.gone_height))
    ∙ (ap (λ (cells : Cells). row_text_of cells row) g.gone ∙ sym (row_of_window old row g.tallest))
rows height old new row is (inr g) low =
    let taller : (height < old.gone_height) × (old.height < old.gone_height) = elim g.higher
    [ inl a ↦ (omega arith, omega arith) | inr b ↦ (omega arith, omega arith) ] in
    row_of_gone new row (omega (arith, g.gone_height, taller.0))
    ∙ (ap (λ (cells : Cells). row_text_of cells row) g.gone ∙ sym (row_of_gone old row taller.1))

-- which is gone, of a window that is changed elsewhere
with_gone : (height : ℕ) (old kept new : Windows) → new.gone ≡ kept.gone → new.gone_height ≡ kept.gone_height
    → OneIsGone height old kept → OneIsGone height old new
with_gone height old kept new gone gone_height (inl g) =
    inl (record {
      lower = g.lower;
      tallest = g.tallest;
      gone = gone ∙ g.gone;
      gone_height = gone_height
          ∙ g.gone_height;
    })
with_gone height old kept new gone gone_height (inr g) =
    inr (record { higher = g.higher; gone = gone ∙ g.gone; gone_height = gone_height ∙ g.gone_height })

-- a split does no more to the grid that is gone
split_height_is : (version lines : ℕ) (w : Windows) → (split version lines w).height ≡ min lines 255
unfolding split
split_height_is version lines w =
    let wider : Windows = with_height version (min lines 255) (kept_if_lower (min lines 255) w) in
    cond_both (nat_lt (min lines 255) wider.row) (homed wider) wider (λ (v : Windows). v.height ≡ min lines 255)
    (λ _. refl) (λ _. refl)

split_gone : (version lines : ℕ) (w : Windows) → OneIsGone (min lines 255) w (split version lines w)
unfolding split
split_gone version lines w =
    let wider : Windows = with_height version (min lines 255) (kept_if_lower (min lines 255) w) in
    cond_both (nat_lt (min lines 255) wider.row) (homed wider) wider (OneIsGone (min lines 255) w)
    (λ _. with_gone (min lines 255) w (kept_if_lower (min lines 255) w) (homed wider)
    refl refl (one_is_gone (min lines 255) w))
    (λ _. with_gone (min lines 255) w (kept_if_lower (min lines 255) w) wider refl refl (one_is_gone (min lines 255) w))

unsplit_gone : (w : Windows) → OneIsGone 0 w (unsplit w)
unfolding unsplit cleared
unsplit_gone w = with_gone 0 w (kept_if_lower 0 w) (unsplit w) refl refl (one_is_gone 0 w)

unsplit_height_is : (w : Windows) → (unsplit w).height ≡ 0
unfolding unsplit cleared
unsplit_height_is w = refl

forgotten_height : (w : Windows) → tallest_height (forgotten w) ≡ w.height
unfolding tallest_height forgotten
forgotten_height w = omega arith

forgotten_rows : (w : Windows) (row : ℕ) → tallest_row_text (forgotten w) row ≡ row_text w row
unfolding forgotten row_text
forgotten_rows w row = row_of_window (forgotten w) row (omega arith)

pub keeps_the_tallest : KeepsTheTallest
keeps_the_tallest = record {
  split_height = λ version lines w. heights (min lines 255) w (split version lines w)
      (split_height_is version lines w) (split_gone version lines w);
  split_rows = λ version lines w low row. rows (min lines 255) w (split version lines w) row
      (split_height_is version lines w) (split_gone version lines w) low;
  unsplit_height = λ w. heights 0 w (unsplit w) (unsplit_height_is w) (unsplit_gone w) ∙ omega arith;
  unsplit_rows = λ w low row. rows 0 w (unsplit w) row (unsplit_height_is w) (unsplit_gone w) low;
  forgotten_height = forgotten_height;
  forgotten_rows = forgotten_rows;
}
