-- The rows of an index, one after the other.
use Rattle.std.specs.Prelude.{slice_range}
use Rattle.std.specs.List.{find}
use Rattle.std.proofs.Common.{◌≡◌, ◌∙◌, ℕ, suc, ◌+◌, ◌-◌, ◌*◌, ◌<◌, ◌≤◌, true, false, List, ◌∷◌, take, drop, Option}
use Rattle.std.proofs.Common.{Some, None, Ok, Err, refl, sym, arith}
use Rattle.std.proofs.lemmas.List.{drop-drop}
use Rattle.zk_blorb.specs.Blorb.{number_of, first_rows, rows_of, is_executable, executable_in}
use Rattle.zk_blorb.specs.declared.story.BlorbError.TheVariants.{NoStory}

-- the first executable of the rows from one on
abbrev pub first_from : List ℕ → ℕ → ℕ → Option (List ℕ)
first_from rows n k = find is_executable (first_rows (n - k) (drop (12 * k) rows))

rows_on : (rows : List ℕ) (n k : ℕ) → k < n → first_rows (n - k) (drop (12 * k) rows) ≡ take 12
    (drop (12 * k) rows) ∷ first_rows (n - (k + 1)) (drop (12 * (k + 1)) rows)
unfolding first_rows
rows_on rows n k h =
    let more : n - k ≡ suc (n - (k + 1)) = omega arith in
    let next : 12 * k + 12 ≡ 12 * (k + 1) = omega arith in
    rw (more, drop-drop 12 (12 * k) rows, next) refl

pub found_here : (rows : List ℕ) (n k size : ℕ) → k < n → size ≡ 12
    → is_executable (take size (drop (12 * k) rows)) ≡ true → first_from rows n k ≡ Some
    (take size (drop (12 * k) rows))
found_here rows n k size h s e = rw s (rw (rows_on rows n k h, rw s at e) refl)

pub found_on : (rows : List ℕ) (n k size : ℕ) → k < n → size ≡ 12
    → is_executable (take size (drop (12 * k) rows)) ≡ false → first_from rows n k ≡ first_from rows n (k + 1)
found_on rows n k size h s e = rw (rows_on rows n k h, rw s at e) refl

found_none : (rows : List ℕ) (n k : ℕ) → n ≤ k → first_from rows n k ≡ None
unfolding first_rows
found_none rows n k h =
    let none : n - k ≡ 0 = omega arith in
    rw none refl

-- the executable of a row that is the first
pub starts_here : (rows row : List ℕ) (start : ℕ) → find is_executable (rows_of rows) ≡ Some row
    → start ≡ number_of (slice_range row 8 12) → Ok start ≡ executable_in rows
unfolding executable_in
starts_here rows row start found s = rw (found, s) refl

-- there is none where the rows end
pub starts_nowhere : (rows : List ℕ) (n k : ℕ) → n ≤ k → first_from rows n k ≡ find is_executable (rows_of rows)
    → Err NoStory ≡ executable_in rows
unfolding executable_in
starts_nowhere rows n k h same = rw (sym same ∙ found_none rows n k h) refl
