-- The addresses of marks, with one mark more.
use Rattle.std.specs.List.{flat_map}
use Rattle.std.proofs.Common.{◌≡◌, ◌∙◌, ◌<◌, ℕ, ◌+◌, Bool, true, false, List, [], ◌∷◌, ◌++◌, length, take, get_or}
use Rattle.std.proofs.Common.{ap, append-nil, arith, refl, sym}
use Rattle.std.proofs.lemmas.List.{take_more, length-take-le}
use Rattle.std.proofs.lemmas.Grind.{flat_map-append}
use Rattle.zk_program.specs.Covers.{address_line, marked_from, marked_line}

from_mark : ℕ → Bool → List Bool → List ℕ
from_mark a true xs = a ∷ marked_from (a + 1) xs
from_mark a false xs = marked_from (a + 1) xs

by_mark : (a : ℕ) (m : Bool) (xs : List Bool) → marked_from a (m ∷ xs) ≡ from_mark a m xs
unfolding marked_from from_mark
by_mark a true xs = refl
by_mark a false xs = refl

none_marked : (a : ℕ) → marked_from a [] ≡ []
unfolding marked_from
none_marked a = refl

more_by : (a : ℕ) (x : Bool) (xs : List Bool) (m : Bool)
    → marked_from (a + 1) (xs ++ m ∷ []) ≡ marked_from (a + 1) xs ++ marked_from (a + 1 + length xs) (m ∷ [])
    → from_mark a x (xs ++ m ∷ []) ≡ from_mark a x xs ++ marked_from (a + length (x ∷ xs)) (m ∷ [])
unfolding from_mark marked_from
more_by a true xs m h =
    let e : (a + 1) + length xs ≡ a + length (true ∷ xs) = omega arith in
    ap (λ (ys : List ℕ). a ∷ ys) (rw e at h)
more_by a false xs m h =
    let e : (a + 1) + length xs ≡ a + length (false ∷ xs) = omega arith in
    rw e at h

more_marked : (a : ℕ) (xs : List Bool) (m : Bool)
    → marked_from a (xs ++ m ∷ []) ≡ marked_from a xs ++ marked_from (a + length xs) (m ∷ [])
more_marked a [] m =
    let e : a ≡ a + 0 = omega arith in
    rw (none_marked a) (ap (λ k. marked_from k (m ∷ [])) e)
more_marked a (x ∷ xs) m =
    by_mark a x (xs ++ m ∷ []) ∙ more_by a x xs m (more_marked (a + 1) xs m)
    ∙ ap (λ (ys : List ℕ). ys ++ marked_from (a + length (x ∷ xs)) (m ∷ [])) (sym (by_mark a x xs))

one_line : (a : ℕ) (m : Bool) → flat_map address_line (marked_from a (m ∷ [])) ≡ marked_line a m
unfolding marked_from
one_line a true = append-nil (address_line a)
one_line a false = refl

-- the lines of the marks up to one, with the next
pub more_lines : (xs : List Bool) (at : ℕ) (d : Bool) → at < length xs
    → flat_map address_line (marked_from 0 (take (at + 1) xs))
    ≡ flat_map address_line (marked_from 0 (take at xs)) ++ marked_line at (get_or xs at d)
more_lines xs at d lt =
    let n : 0 + length (take at xs) ≡ at = omega (arith, length-take-le at xs (omega (arith, lt))) in
    rw (
      take_more xs at d lt,
      more_marked 0 (take at xs) (get_or xs at d),
      n,
      flat_map-append address_line (marked_from 0 (take at xs)) (marked_from at (get_or xs at d ∷ [])),
      one_line at (get_or xs at d),
    ) refl
