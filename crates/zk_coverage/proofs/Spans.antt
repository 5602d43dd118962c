-- What two searches in a list that ascends leave between them.
use Rattle.std.specs.Prelude.{filter}
use Rattle.std.specs.List.Sorted.{IsPartitionPoint}
use Rattle.std.proofs.Common.{◌≡◌, ℕ, zero, suc, ◌&&◌, Bool, true, false, List, [], ◌∷◌, drop, take}
use Rattle.std.proofs.Common.{ap, arith, leb, ltb, refl, subst}
use Rattle.std.proofs.lemmas.Bool.Decides.{nat_tests}

at_least : (a b : ℕ) → ltb b a ≡ false → leb a b ≡ true
at_least a b h = grind (arith, nat_tests)

too_low : (a b : ℕ) → ltb b a ≡ true → leb a b ≡ false
too_low a b h = grind (arith, nat_tests)

abbrev between : {X : Type 0} → (X → ℕ) → ℕ → ℕ → X → Bool
between n low high x = leb low (n x) && ltb (n x) high

out_low : {X : Type 0} (n : X → ℕ) (low high : ℕ) (x : X) → ltb (n x) low ≡ true → between n low high x ≡ false
out_low n low high x h = rw (too_low low (n x) h) refl

out_high : {X : Type 0} (n : X → ℕ) (low high : ℕ) (x : X) → ltb (n x) low ≡ false → ltb (n x) high ≡ false
    → between n low high x ≡ false
out_high n low high x h k = rw (at_least low (n x) h, k) refl

inside : {X : Type 0} (n : X → ℕ) (low high : ℕ) (x : X) → ltb (n x) low ≡ false → ltb (n x) high ≡ true
    → between n low high x ≡ true
inside n low high x h k = rw (at_least low (n x) h, k) refl

pub between_is : {X : Type 0} (n : X → ℕ) (low high : ℕ) (xs : List X) (i j : ℕ)
    → IsPartitionPoint (λ y. ltb (n y) low ≡ true) (λ y. ltb (n y) low ≡ false) xs i
    → IsPartitionPoint (λ y. ltb (n y) high ≡ true) (λ y. ltb (n y) high ≡ false) (drop i xs) j
    → take j (drop i xs) ≡ filter (between n low high) xs
between_is n low high [] zero zero a b = refl
between_is n low high [] zero (suc j) a b = refl
between_is n low high [] (suc i) zero a b = refl
between_is n low high [] (suc i) (suc j) a b = refl
between_is n low high (x ∷ xs) (suc i) j a b =
    rw (out_low n low high x (a.0 0 x (omega arith) (omega arith)))
    (between_is n low high xs i j (
      (λ k d s t. a.0 (suc k) d (omega arith) (omega (arith, t))),
      (λ k d s t. a.1 (suc k) d (omega (arith, s)) (omega (arith, t))),
    ) b)
between_is n low high (x ∷ xs) zero zero a b =
    rw (out_high n low high x (a.1 0 x (omega arith) (omega arith)) (b.1 0 x (omega arith) (omega arith)))
    (between_is n low high xs zero zero
    ((λ k d s t. absurd (omega (arith, t))), (λ k d s t. a.1 (suc k) d (omega arith) (omega (arith, t))))
    ((λ k d s t. absurd (omega (arith, t))), (λ k d s t. b.1 (suc k) d (omega arith) (omega (arith, t)))))
between_is n low high (x ∷ xs) zero (suc j) a b =
    rw (inside n low high x (a.1 0 x (omega arith) (omega arith)) (b.0 0 x (omega arith) (omega arith)))
    (ap (λ l. x ∷ l) (between_is n low high xs zero j
    ((λ k d s t. absurd (omega (arith, t))), (λ k d s t. a.1 (suc k) d (omega arith) (omega (arith, t)))) (
      (λ k d s t. b.0 (suc k) d (omega arith) (omega (arith, t))),
      (λ k d s t. b.1 (suc k) d (omega (arith, s)) (omega (arith, t))),
    )))

-- the same of a rest that is written otherwise
pub rest_is : {X : Type 0} (n : X → ℕ) (low high : ℕ) (xs : List X) (i : ℕ) (rest : List X) (j : ℕ) → rest ≡ drop i xs
    → IsPartitionPoint (λ y. ltb (n y) low ≡ true) (λ y. ltb (n y) low ≡ false) xs i
    → IsPartitionPoint (λ y. ltb (n y) high ≡ true) (λ y. ltb (n y) high ≡ false) rest j
    → take j rest ≡ filter (between n low high) xs
rest_is {X} n low high xs i rest j e a b =
    rw e (between_is n low high xs i j a
    (subst (λ (l : List X). IsPartitionPoint (λ y. ltb (n y) high ≡ true) (λ y. ltb (n y) high ≡ false) l j) e b))
