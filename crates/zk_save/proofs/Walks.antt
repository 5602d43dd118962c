-- What bytes spell one after the other: more fuel changes nothing.
use Rattle.std.proofs.Common.{◌≡◌, ◌∙◌, ℕ, zero, suc, ◌<◌, ◌≤◌, List, [], ◌∷◌, length, Option, Some, None, refl, ap}
use Rattle.std.proofs.Common.{sym, arith}
use Rattle.zk_save.specs.Reading.{each_of, each_up_to, found_then, then_rest}

-- each is cut off the front of bytes, of which fewer are left
module _ {A : Type 0} (first : List ℕ → Option (A × List ℕ)) (none : first [] ≡ None)
    (shorter : (bs : List ℕ) (p : A × List ℕ) → first bs ≡ Some p → length p.1 < length bs) where
  then_by : (o : Option (A × List ℕ)) (n m : ℕ)
      → ((p : A × List ℕ) → o ≡ Some p → each_up_to first n p.1 ≡ each_up_to first m p.1)
      → found_then o (λ c. then_rest c.0 (each_up_to first n c.1)) ≡ found_then o
      (λ c. then_rest c.0 (each_up_to first m c.1))
  then_by None n m h = refl
  then_by (Some p) n m h = ap (then_rest p.0) (h p refl)

  same_fuel : (n m : ℕ) (bs : List ℕ) → length bs ≤ n → length bs ≤ m → each_up_to first n bs ≡ each_up_to first m bs
  unfolding each_up_to
  same_fuel zero zero bs h k = refl
  same_fuel zero (suc m) [] h k = refl
  same_fuel (suc n) zero [] h k = refl
  same_fuel (suc n) (suc m) [] h k = refl
  same_fuel zero (suc m) (b ∷ bs) h k = absurd (omega arith)
  same_fuel (suc n) zero (b ∷ bs) h k = absurd (omega arith)
  same_fuel (suc n) (suc m) (b ∷ bs) h k =
      then_by (first (b ∷ bs)) n m (λ p e. same_fuel n m p.1 (omega (arith, shorter (b ∷ bs) p e))
      (omega (arith, shorter (b ∷ bs) p e)))

  pub each_step : (bs : List ℕ) (p : A × List ℕ) → first bs ≡ Some p
      → each_of first bs ≡ then_rest p.0 (each_of first p.1)
  unfolding each_up_to
  each_step [] p h = let e : None ≡ Some p = sym none ∙ h in absurd cc
  each_step (b ∷ bs) p h =
      let short : length p.1 < length (b ∷ bs) = shorter (b ∷ bs) p h in
      rw h (ap (then_rest p.0) (same_fuel (length bs) (length p.1) p.1 (omega (arith, short)) (omega arith)))

  pub each_stop : (bs : List ℕ) → 0 < length bs → first bs ≡ None → each_of first bs ≡ None
  unfolding each_up_to
  each_stop [] lt h = absurd (omega arith)
  each_stop (b ∷ bs) lt h = rw h refl
