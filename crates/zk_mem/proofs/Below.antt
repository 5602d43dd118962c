-- Tests of each number below another.
use Rattle.std.proofs.Common.{◌≡◌, ◌<◌, ◌≤◌, ℕ, zero, suc, ◌+◌, ◌-◌, Bool, true, false, ◌&&◌, ◌==◌, refl, arith}
use Rattle.std.proofs.lemmas.Bool.Decides.{nat_tests}

-- whether each number below n passes
unfoldable pub all_below : (ℕ → Bool) → ℕ → Bool
all_below p zero = true
all_below p (suc n) = p n && all_below p n

both : (a b : Bool) → (a && b) ≡ true → (a ≡ true) × (b ≡ true)
both true b h = (refl, h)
both false b h = absurd cc

last_or_below : (p : ℕ → Bool) (n k : ℕ) → k < suc n → p n ≡ true → ((k : ℕ) → k < n → p k ≡ true) → p k ≡ true
last_or_below p n k h last below = go (k == n) refl
  where
    go : (b : Bool) → (k == n) ≡ b → p k ≡ true
    go true test = let same : k ≡ n = grind (arith, nat_tests) in rw same last
    go false test = below k (grind (arith, nat_tests))

pub each_below : (p : ℕ → Bool) (n : ℕ) → all_below p n ≡ true → (k : ℕ) → k < n → p k ≡ true
unfolding all_below
each_below p zero h k low = absurd (omega arith)
each_below p (suc n) h k low =
    let parts = both (p n) (all_below p n) h in
    last_or_below p n k low parts.0 (each_below p n parts.1)

-- two numbers that pass as equal
pub same_below : (f g : ℕ → ℕ) (n : ℕ) → all_below (λ k. f k == g k) n ≡ true → (k : ℕ) → k < n → f k ≡ g k
same_below f g n h k low =
    let test : (f k == g k) ≡ true = each_below (λ k. f k == g k) n h k low in
    grind (arith, nat_tests)

-- from a number on
pub same_between : (f g : ℕ → ℕ) (from n : ℕ) → all_below (λ k. f (from + k) == g (from + k)) n ≡ true → (k : ℕ)
    → from ≤ k → k < from + n → f k ≡ g k
same_between f g from n h k low high =
    let place : from + (k - from) ≡ k = omega arith in
    let near : k - from < n = omega arith in
    let same = same_below (λ i. f (from + i)) (λ i. g (from + i)) n h (k - from) near in
    rw place at same
