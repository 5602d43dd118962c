-- Storing a line.
use Rattle.std.proofs.Common.{◌≡◌, ◌≤◌, ◌<◌, ℕ, ◌+◌, List, [], ◌∷◌, ◌++◌, length, take, map, min, get_or, nat_lt, refl}
use Rattle.std.proofs.Common.{arith, inl, inr}
use Rattle.std.proofs.lemmas.List.{take_all, take_more, map-append}
use Rattle.std.proofs.lemmas.Bool.{cases_Bool}
use Rattle.std.proofs.lemmas.Bool.Decides.{nat_tests}

pub taken_on : (f : ℕ → ℕ) (xs : List ℕ) (i : ℕ) → i < length xs → map f (take (i + 1) xs) ≡ map f (take i xs)
    ++ f (get_or xs i 0) ∷ []
taken_on f xs i h = rw (take_more xs i 0 h) (map-append f (take i xs) (get_or xs i 0 ∷ []))

pub taken_end : (f : ℕ → ℕ) (xs : List ℕ) (room : ℕ) → map f (take (min (length xs) room) xs) ≡ map f (take room xs)
taken_end f xs room = elim (cases_Bool (nat_lt (length xs) room)) [
  | inl t ↦ (let below : length xs ≤ room = grind (arith, nat_tests) in
      let least : min (length xs) room ≡ length xs = omega arith in
      rw (least, take_all (length xs) xs (omega arith), take_all room xs below) refl)
  | inr t ↦ (let above : room ≤ length xs = grind (arith, nat_tests) in
      let least : min (length xs) room ≡ room = omega arith in
      rw least refl)
]
