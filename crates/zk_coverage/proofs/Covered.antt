-- What a binary search says of what ran.
use Rattle.std.specs.Prelude.{is_ok, MatchResult}
use Rattle.std.specs.List.Sorted.{IsBinarySearchResult, IsNonDecreasing}
use Rattle.std.specs.Ordering.{nat_cmp}
use Rattle.std.proofs.Common.{◌≡◌, ◌≢◌, ℕ, ◌<◌, ◌≤◌, ◌==◌, Bool, true, false, List, length, get_or, Result, Ok, Err}
use Rattle.std.proofs.Common.{refl, sym, arith, nat_lt, ◌⊎◌, inl, inr}
use Rattle.std.proofs.lemmas.Bool.Decides.{nat_tests}
use Rattle.std.proofs.lemmas.List.Elements.{All-from_get_or}
use Rattle.std.proofs.lemmas.List.Folds.{list_any_at, list_any_none}
use Rattle.std.proofs.lemmas.List.Sorted.{searched}
use Rattle.zk_coverage.specs.Coverage.{has_run}

same : (a b : ℕ) → a ≡ b → (a == b) ≡ true
same a b h = grind (arith, nat_tests)

other : (a b : ℕ) → a ≢ b → (a == b) ≡ false
other a b h = grind (arith, nat_tests)

lt_by : (k i : ℕ) (v : Bool) → nat_lt k i ≡ v → (k < i) ⊎ (i ≤ k)
lt_by k i true e = let l : k < i = grind (arith, nat_tests) in inl l
lt_by k i false e = let g : i ≤ k = grind (arith, nat_tests) in inr g

lt_or_le : (k i : ℕ) → (k < i) ⊎ (i ≤ k)
lt_or_le k i = lt_by k i (nat_lt k i) refl

apart : (xs : List ℕ) (x i : ℕ) → i ≤ length xs → ((k : ℕ) → k < i → get_or xs k 0 < x)
    → ((k : ℕ) → i ≤ k → k < length xs → x < get_or xs k 0) → (k : ℕ) → k < length xs → get_or xs k 0 ≢ x
apart xs x i h below above k u e =
    elim (lt_or_le k i) [ inl l ↦ let b = below k l in omega arith | inr g ↦ let b = above k g u in omega arith ]

found_by : (xs : List ℕ) (x : ℕ) (r : Result ℕ ℕ)
    → MatchResult r (λ i. (i < length xs) × (get_or xs i 0 ≡ x))
    (λ i. (i ≤ length xs) × ((k : ℕ) → k < i → get_or xs k 0 < x)
    × ((k : ℕ) → i ≤ k → k < length xs → x < get_or xs k 0))
    → is_ok r ≡ has_run xs x
found_by xs x (Ok i) h = sym (list_any_at (λ a. a == x) xs i 0 h.0 (same (get_or xs i 0) x h.1))
found_by xs x (Err i) h =
    sym (list_any_none (λ a. a == x) xs (All-from_get_or (λ a. (a == x) ≡ false) xs 0
    (λ k u. other (get_or xs k 0) x (apart xs x i h.0 h.1 h.2 k u))))

pub found_is : (xs : List ℕ) (x : ℕ) (r : Result ℕ ℕ) → IsBinarySearchResult (λ y. nat_cmp y x) xs r
    → IsNonDecreasing xs → is_ok r ≡ has_run xs x
found_is xs x r h up = found_by xs x r (searched xs x r h (λ i j a b. up i j 0 a b))
