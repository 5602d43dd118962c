-- The place of a letter in an alphabet.
use Rattle.std.proofs.Common.{◌≡◌, ◌≤◌, ◌<◌, ℕ, zero, suc, ◌+◌, Option, Some, None, Bool, true, false, ◌==◌, refl, ◌∙◌}
use Rattle.std.proofs.Common.{arith}
use Rattle.std.proofs.lemmas.Bool.Decides.{nat_tests}
use Rattle.zk_mem.specs.Map.{MemoryMap}
use Rattle.zk_text.specs.declared.alphabet.Row.{Row}
use Rattle.zk_text.specs.declared.alphabet.Row.TheVariants.{A2}
use Rattle.zk_text.specs.Alphabets.{letter_by, letter_of}
use Rattle.zk_text.specs.Keys.{place_from, a2_place}
use Rattle.zk_text.specs.guards.KeyLaws.{IsFirst, Finds, PlaceIsFirst, A2PlaceIsFirst}

-- what a search of the Z-characters from z on finds, where those from z + 1 on are searched so
found_here : (m : MemoryMap) (row : Row) (c z : ℕ) → z < 32 → letter_of m row z ≡ c → IsFirst m row c z z
found_here m row c z low h = record {
  from = omega arith;
  within = low;
  letter = h;
  least = λ y more e. more;
}

later : (m : MemoryMap) (row : Row) (c z y : ℕ) → (letter_of m row z ≡ c → ⊥) → z ≤ y
    → letter_of m row y ≡ c → z + 1 ≤ y
later m row c z y other low e = go (z == y) refl
  where
    go : (b : Bool) → (z == y) ≡ b → z + 1 ≤ y
    go true test = let same : z ≡ y = grind (arith, nat_tests) in absurd (other (rw same e))
    go false test = grind (arith, nat_tests)

found_later : (m : MemoryMap) (row : Row) (c z : ℕ) (o : Option ℕ) → (letter_of m row z ≡ c → ⊥)
    → Finds m row c (z + 1) o → Finds m row c z o
found_later m row c z None other h = λ y low within e. h y (later m row c z y other low e) within e
found_later m row c z (Some x) other h = record {
  from = let from = h.from in omega arith;
  within = h.within;
  letter = h.letter;
  least = λ y low e. h.least y (later m row c z y other low e) e;
}

finds_by : (m : MemoryMap) (row : Row) (c n z : ℕ) (b : Bool) → (letter_of m row z == c) ≡ b → z < 32
    → Finds m row c (z + 1) (place_from m row c n (z + 1)) → Finds m row c z (place_from m row c (suc n) z)
unfolding place_from
finds_by m row c n z true test low h =
    let same : letter_of m row z ≡ c = grind (arith, nat_tests) in rw test (found_here m row c z low same)
finds_by m row c n z false test low h =
    let other : letter_of m row z ≡ c
    → ⊥ = (λ e. let yes_same : (letter_of m row z == c) ≡ true = grind (arith, nat_tests) in absurd cc) in
    rw test (found_later m row c z (place_from m row c n (z + 1)) other h)

finds : (m : MemoryMap) (row : Row) (c n z : ℕ) → n + z ≡ 32 → Finds m row c z (place_from m row c n z)
unfolding place_from
finds m row c zero z h = λ y low within e. omega arith
finds m row c (suc n) z h =
    finds_by m row c n z (letter_of m row z == c) refl (omega (arith, h)) (finds m row c n (z + 1) (omega (arith, h)))

pub place_is_first : PlaceIsFirst
place_is_first m row c = finds m row c 26 6 refl

-- 7 in A2 is a new line
new_line : (m : MemoryMap) → letter_of m A2 7 ≡ 13
unfolding letter_by
new_line m = refl

a2_finds : (m : MemoryMap) (c : ℕ) (b : Bool) → (c == 13) ≡ b → Finds m A2 c 7 (a2_place m c)
unfolding a2_place
a2_finds m c true test =
    let same : 13 ≡ c = grind (arith, nat_tests) in
    rw test (found_here m A2 c 7 (omega arith) (new_line m ∙ same))
a2_finds m c false test =
    let other : letter_of m A2 7 ≡ c → ⊥ = (λ e. let line = new_line m in
    let yes_same : (c == 13) ≡ true = grind (arith, nat_tests) in absurd cc) in
    rw test (found_later m A2 c 7 (place_from m A2 c 24 8) other (finds m A2 c 24 8 refl))

pub a2_place_is_first : A2PlaceIsFirst
a2_place_is_first m c = a2_finds m c (c == 13) refl
