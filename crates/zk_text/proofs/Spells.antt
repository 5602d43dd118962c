-- Spelling a key.
use Rattle.std.proofs.Common.{◌≡◌, ◌≤◌, ◌<◌, ℕ, zero, suc, ◌+◌, ◌-◌, List, [], ◌∷◌, ◌++◌, length, take, drop, get_or}
use Rattle.std.proofs.Common.{Some, None, ◌==◌, true, false, drop-cons, append_assoc, add-one, refl, sym, ◌∙◌, arith}
use Rattle.std.proofs.lemmas.Bool.Decides.{nat_tests}
use Rattle.std.proofs.lemmas.List.{append-nil, drop_all, take-append-le}
use Rattle.std.proofs.Common.{length-append}
use Rattle.std.proofs.lemmas.List.{length-take, take_all}
use Rattle.zk_mem.specs.Map.{MemoryMap}
use Rattle.zk_text.specs.declared.alphabet.Row.{Row}
use Rattle.zk_text.specs.Alphabets.{letter_of}
use Rattle.zk_text.specs.Keys.{place_from, spelling, spellings, fives, key_characters}

pub place_on : (m : MemoryMap) (row : Row) (c z : ℕ) → z < 32 → (letter_of m row z ≡ c → ⊥)
    → place_from m row c (32 - z) z ≡ place_from m row c (32 - (z + 1)) (z + 1)
unfolding place_from
place_on m row c z h other =
    let e : 32 - z ≡ suc (32 - (z + 1)) = omega arith in
    let test : (letter_of m row z == c) ≡ false = grind (arith, nat_tests) in
    rw (e, test) refl

pub place_here : (m : MemoryMap) (row : Row) (c z : ℕ) → z < 32 → letter_of m row z ≡ c
    → place_from m row c (32 - z) z ≡ Some z
unfolding place_from
place_here m row c z h same =
    let e : 32 - z ≡ suc (32 - (z + 1)) = omega arith in
    let test : (letter_of m row z == c) ≡ true = grind (arith, nat_tests) in
    rw (e, test) refl

pub place_none : (m : MemoryMap) (row : Row) (c z : ℕ) → 32 ≤ z → place_from m row c (32 - z) z ≡ None
unfolding place_from
place_none m row c z h = let e : 32 - z ≡ zero = omega arith in rw e refl

pub take_on : (most : ℕ) (xs rest : List ℕ) (z : ℕ) → take most ((xs ++ z ∷ []) ++ rest) ≡ take most (xs ++ z ∷ rest)
take_on most xs rest z = simp append_assoc

pub take_full : (most : ℕ) (xs rest more : List ℕ) → most ≤ length xs → take most (xs ++ rest) ≡ take most (xs ++ more)
take_full most xs rest more h = rw (take-append-le most xs rest, take-append-le most xs more) refl

pub spell_on : (m : MemoryMap) (cs : List ℕ) (i : ℕ) → i < length cs
    → spellings m (drop i cs) ≡ spelling m (get_or cs i 0) ++ spellings m (drop (i + 1) cs)
unfolding spellings
spell_on m cs i h = rw (drop-cons cs i 0, add-one) refl

pub spell_end : (m : MemoryMap) (cs : List ℕ) (i : ℕ) → length cs ≤ i → spellings m (drop i cs) ≡ []
unfolding spellings
spell_end m cs i h = rw (drop_all i cs h) refl

pub five_on : (n i : ℕ) → i < n → fives (n - i) ≡ 5 ∷ fives (n - (i + 1))
unfolding fives
five_on n i h = let e : n - i ≡ suc (n - (i + 1)) = omega arith in rw e refl

pub five_end : (n i : ℕ) → n ≤ i → fives (n - i) ≡ []
unfolding fives
five_end n i h = let e : n - i ≡ zero = omega arith in rw e refl

pub length-fives : (n : ℕ) → length (fives n) ≡ n
unfolding fives
length-fives zero = refl
length-fives (suc n) = let here = length-fives n in omega arith

pub key_length : (m : MemoryMap) (most : ℕ) (text : List ℕ) → length (key_characters m most text) ≡ most
key_length m most text =
    omega (
      arith,
      length-take most (spellings m text ++ fives most),
      length-append (spellings m text)
          (fives most),
      length-fives most,
    )

-- a list that was filled up is the key's
pub filled : (m : MemoryMap) (most i : ℕ) (zs text : List ℕ) → most ≤ i → length zs ≤ most
    → take most (zs ++ fives (most - i)) ≡ key_characters m most text → zs ≡ key_characters m most text
filled m most i zs text end room e =
    let none = five_end most i end in
    let all = rw (none, append-nil) at e in
    sym (take_all most zs room) ∙ all

pub ruleset of_find_from = (place_on, place_here, place_none)

pub ruleset of_characters_of_key = (spell_on, spell_end, five_on, five_end, key_length)
