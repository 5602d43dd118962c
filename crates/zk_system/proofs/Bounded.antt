-- What is read through a bound.
use Rattle.std.proofs.Common.{◌≡◌, ◌≤◌, ◌+◌, ◌++◌, ℕ, Bool, true, false, List, [], Option, Some, None}
use Rattle.std.proofs.Common.{IfSome, ap, arith, length, refl, subst}
use Rattle.std.proofs.lemmas.Bool.{leb-true, leb-false}
use Rattle.std.proofs.lemmas.List.{take_all, length-take-le}
use Rattle.std.specs.Io.Take.{take_limit, take_inner, take_remaining}
use Rattle.std.specs.Prelude.{nat_le, take, option_map}
use Rattle.std.specs.declared.io.traits.Take.{Take}
use Rattle.zk_system.specs.Files.{within}

whole_by : (b : Bool) (most : ℕ) (file items : List ℕ) → nat_le (length file) most ≡ b → items ≡ take (most + 1) file
    → length items ≤ most → Some items ≡ within most file
whole_by true most file items e is few =
    rw (e, is) (ap Some (take_all (most + 1) file (omega (arith, leb-true (length file) most e))))
whole_by false most file items e is few =
    absurd (omega (
      arith,
      few,
      ap length is,
      length-take-le (most + 1) file
          (omega (arith, leb-false (length file) most e)),
    ))

whole : (known : Option (List ℕ)) (most : ℕ) (items : List ℕ)
    → IfSome (option_map (take (most + 1)) known) (λ xs. items ≡ [] ++ xs) → length items ≤ most
    → IfSome known (λ file. Some items ≡ within most file)
whole None most items h few = h
whole (Some file) most items h few = whole_by (nat_le (length file) most) most file items refl h few

-- what was read to its end through a bound, and is not longer than one byte less, is all that there was
pub all_within : {R : Type 0} (remaining : R → Option (List ℕ)) (t : Take R) (reader : R) (most : ℕ)
    (old items : List ℕ)
    → take_limit t ≡ most + 1 → take_inner t ≡ reader → old ≡ []
    → IfSome (take_remaining remaining t) (λ xs. items ≡ old ++ xs) → length items ≤ most
    → IfSome (remaining reader) (λ file. Some items ≡ within most file)
all_within {R} remaining t reader most old items limit inner empty h few =
    let one = subst (λ (n : ℕ). IfSome (option_map (take n) (remaining (take_inner t))) (λ xs. items ≡ old ++ xs))
    limit h in
    let two = subst (λ (r : R). IfSome (option_map (take (most + 1)) (remaining r)) (λ xs. items ≡ old ++ xs)) inner
    one in
    whole (remaining reader) most items
    (subst (λ (o : List ℕ). IfSome (option_map (take (most + 1)) (remaining reader)) (λ xs. items ≡ o ++ xs)) empty two)
    few
