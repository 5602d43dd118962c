-- What the spelling of a word means.
use Rattle.std.proofs.Common.{◌≡◌, ◌≤◌, ℕ, zero, suc, ◌+◌, ◌-◌, ◌*◌, ◌/◌, ◌%◌, List, [], ◌∷◌, ◌++◌, map, length, take}
use Rattle.std.proofs.Common.{Option, Some, None, Ok, Bool, true, false, nat_lt, ◌==◌, append_assoc, refl, ◌∙◌, ap}
use Rattle.std.proofs.Common.{arith}
use Rattle.std.proofs.lemmas.Bool.Decides.{nat_tests}
use Rattle.std.proofs.lemmas.List.{append-nil}
use Rattle.zk_mem.specs.Map.{MemoryMap}
use Rattle.zk_text.specs.declared.alphabet.Row.{Row}
use Rattle.zk_text.specs.declared.alphabet.Row.TheVariants.{A0, A1, A2}
use Rattle.zk_text.specs.declared.pieces.Piece.{Piece}
use Rattle.zk_text.specs.declared.pieces.Piece.TheVariants as piece
use Rattle.zk_text.specs.declared.unit.Unit.{Unit}
use Rattle.zk_text.specs.declared.unit.Unit.TheVariants.{Code}
use Rattle.zk_text.specs.Alphabets.{letter_of}
use Rattle.zk_text.specs.Pieces.{pieces, pieces_past}
use Rattle.zk_text.specs.Meaning.{Units, joined, value, values, meaning}
use Rattle.zk_text.specs.Keys.{place, a2_place, spelled, spelling, spellings, fives, key_characters}
use Rattle.zk_text.specs.guards.KeyLaws.{IsFirst, IsAbsent, Finds, SpellingByCases, SpaceIsZero, NewLineIsSeven}
use Rattle.zk_text.specs.guards.KeyLaws.{SpellingsMean, KeyMeans}
use Rattle.zk_text.proofs.Giving.{values_first}
use Rattle.zk_text.proofs.guards.Places.{place_is_first, a2_place_is_first}

-- Z-characters that mean a code, and leave what follows them as it is
record Means (m : MemoryMap) (expand : ℕ → Units) (c : ℕ) (zs : List ℕ) : Type 0 where
  piece : Piece
  value_is : value (letter_of m) expand piece ≡ Ok (Code c ∷ [])
  first : (rest : List ℕ) → pieces (zs ++ rest) ≡ piece ∷ pieces rest

space_first : (rest : List ℕ) → pieces (0 ∷ rest) ≡ piece.Code 32 ∷ pieces rest
unfolding pieces_past
space_first rest = refl

a0_first : (z : ℕ) (rest : List ℕ) → 6 ≤ z → pieces (z ∷ rest) ≡ piece.Letter A0 z ∷ pieces rest
unfolding pieces_past
a0_first z rest h =
    let t0 : (z == 0) ≡ false = grind (arith, nat_tests) in
    let t1 : nat_lt z 4 ≡ false = grind (arith, nat_tests) in
    let t2 : (z == 4) ≡ false = grind (arith, nat_tests) in
    let t3 : (z == 5) ≡ false = grind (arith, nat_tests) in
    rw (t0, t1, t2, t3) refl

a1_first : (z : ℕ) (rest : List ℕ) → 6 ≤ z → pieces (4 ∷ z ∷ rest) ≡ piece.Letter A1 z ∷ pieces rest
unfolding pieces_past
a1_first z rest h = let test : nat_lt z 6 ≡ false = grind (arith, nat_tests) in rw test refl

a2_first : (z : ℕ) (rest : List ℕ) → 7 ≤ z → pieces (5 ∷ z ∷ rest) ≡ piece.Letter A2 z ∷ pieces rest
unfolding pieces_past
a2_first z rest h =
    let low : nat_lt z 6 ≡ false = grind (arith, nat_tests) in
    let other : (z == 6) ≡ false = grind (arith, nat_tests) in
    rw (low, other) refl

code_first : (c : ℕ) (rest : List ℕ) → pieces (5 ∷ 6 ∷ c / 32 ∷ c % 32 ∷ rest) ≡ piece.Code c ∷ pieces rest
unfolding pieces_past
code_first c rest =
    let whole : 32 * (c / 32) + c % 32 ≡ c = omega arith in ap (λ (n : ℕ). piece.Code n ∷ pieces rest) whole

letter_means : (m : MemoryMap) (expand : ℕ → Units) (c z : ℕ) (row : Row) (zs : List ℕ) → letter_of m row z ≡ c
    → ((rest : List ℕ) → pieces (zs ++ rest) ≡ piece.Letter row z ∷ pieces rest) → Means m expand c zs
letter_means m expand c z row zs e h = record {
  piece = piece.Letter row z;
  value_is = rw e refl;
  first = h;
}

spelled_means : (m : MemoryMap) (expand : ℕ → Units) (c : ℕ) (lower upper sign : Option ℕ) → Finds m A0 c 6 lower
    → Finds m A1 c 6 upper → Finds m A2 c 7 sign → Means m expand c (spelled lower upper sign c)
spelled_means m expand c (Some z) upper sign h k l =
    letter_means m expand c z A0 (z ∷ []) h.letter (λ rest. a0_first z rest h.from)
spelled_means m expand c None (Some z) sign h k l =
    letter_means m expand c z A1 (4 ∷ z ∷ []) k.letter (λ rest. a1_first z rest k.from)
spelled_means m expand c None None (Some z) h k l =
    letter_means m expand c z A2 (5 ∷ z ∷ []) l.letter (λ rest. a2_first z rest l.from)
spelled_means m expand c None None None h k l = record {
  piece = piece.Code c;
  value_is = refl;
  first = code_first c;
}

spelling_by : (m : MemoryMap) (expand : ℕ → Units) (c : ℕ) (b : Bool) → (c == 32) ≡ b → Means m expand c (spelling m c)
unfolding spelling
spelling_by m expand c true test =
    let same : c ≡ 32 = grind (arith, nat_tests) in
    rw test (record { piece = piece.Code 32; value_is = rw same refl; first = space_first })
spelling_by m expand c false test =
    rw test (spelled_means m expand c (place m A0 c) (place m A1 c) (a2_place m c) (place_is_first m A0 c)
    (place_is_first m A1 c) (a2_place_is_first m c))

spelling_means : (m : MemoryMap) (expand : ℕ → Units) (c : ℕ) → Means m expand c (spelling m c)
spelling_means m expand c = spelling_by m expand c (c == 32) refl

-- one letter more
one_more : (m : MemoryMap) (expand : ℕ → Units) (c : ℕ) (zs rest : List ℕ) → Means m expand c zs
    → meaning m expand (zs ++ rest) ≡ joined (Ok (Code c ∷ [])) (meaning m expand rest)
one_more m expand c zs rest h =
    rw (h.first rest, values_first (letter_of m) expand h.piece (pieces rest), h.value_is) refl

joined_ok : (c : ℕ) (us : List Unit) (r : Units) → r ≡ Ok us → joined (Ok (Code c ∷ [])) r ≡ Ok (Code c ∷ us)
joined_ok c us r h = rw h refl

-- a word before what means nothing
word_means : (m : MemoryMap) (expand : ℕ → Units) (text rest : List ℕ) → meaning m expand rest ≡ Ok []
    → meaning m expand (spellings m text ++ rest) ≡ Ok (map (λ (c : ℕ). Code c) text)
unfolding spellings
word_means m expand [] rest h = h
word_means m expand (c ∷ text) rest h =
    rw (append_assoc (spelling m c) (spellings m text) rest)
    (one_more m expand c (spelling m c) (spellings m text ++ rest) (spelling_means m expand c)
    ∙ joined_ok c (map (λ (x : ℕ). Code x) text) (meaning m expand (spellings m text ++ rest))
    (word_means m expand text rest h))

nothing_means : (m : MemoryMap) (expand : ℕ → Units) → meaning m expand [] ≡ Ok []
unfolding values pieces_past
nothing_means m expand = refl

pub spellings_mean : SpellingsMean
spellings_mean m expand text =
    rw (append-nil (spellings m text)) at (word_means m expand text [] (nothing_means m expand))

-- fives alone show nothing
fives_show : (n : ℕ) → pieces (fives n) ≡ []
unfolding fives pieces_past
fives_show zero = refl
fives_show (suc zero) = refl
fives_show (suc (suc n)) = fives_show (suc n)

fives_mean : (m : MemoryMap) (expand : ℕ → Units) (n : ℕ) → meaning m expand (fives n) ≡ Ok []
unfolding values
fives_mean m expand n = rw (fives_show n) refl

take_fives : (n most : ℕ) → n ≤ most → take n (fives most) ≡ fives n
unfolding fives
take_fives zero most h = refl
take_fives (suc n) zero h = absurd (omega arith)
take_fives (suc n) (suc most) h = ap (λ (zs : List ℕ). 5 ∷ zs) (take_fives n most (omega arith))

take_past : (n : ℕ) (xs ys : List ℕ) → length xs ≤ n → take n (xs ++ ys) ≡ xs ++ take (n - length xs) ys
take_past n [] ys h = let all : n - 0 ≡ n = omega arith in rw all refl
take_past zero (x ∷ xs) ys h = absurd (omega arith)
take_past (suc n) (x ∷ xs) ys h =
    let less : suc n - length (x ∷ xs) ≡ n - length xs = omega arith in
    rw less (ap (λ (zs : List ℕ). x ∷ zs) (take_past n xs ys (omega arith)))

-- a word that is not cut off
pub whole_key : (m : MemoryMap) (most : ℕ) (text : List ℕ) → length (spellings m text) ≤ most
    → key_characters m most text ≡ spellings m text ++ fives (most - length (spellings m text))
whole_key m most text h =
    let less : most - length (spellings m text) ≤ most = omega arith in
    rw (take_past most (spellings m text) (fives most) h, take_fives (most - length (spellings m text)) most less) refl

pub key_means : KeyMeans
key_means m expand most text h =
    rw (whole_key m most text h) (word_means m expand text (fives (most - length (spellings m text)))
    (fives_mean m expand (most - length (spellings m text))))

pub space_is_zero : SpaceIsZero
unfolding spelling
space_is_zero m = refl

not_there : (m : MemoryMap) (row : Row) (c first : ℕ) (o : Option ℕ) → Finds m row c first o
    → IsAbsent m row c first → o ≡ None
not_there m row c first None h absent = refl
not_there m row c first (Some z) h absent = absurd (absent z h.from h.within h.letter)

there : (m : MemoryMap) (row : Row) (c first z : ℕ) (o : Option ℕ) → Finds m row c first o
    → IsFirst m row c first z → o ≡ Some z
there m row c first z None h found = absurd (h z found.from found.within found.letter)
there m row c first z (Some y) h found =
    let low = h.least z found.from found.letter in
    let high = found.least y h.from h.letter in
    let same : y ≡ z = omega (arith, low, high) in
    rw same refl

pub new_line_is_seven : NewLineIsSeven
unfolding spelling a2_place
new_line_is_seven m h k =
    let lower = not_there m A0 13 6 (place m A0 13) (place_is_first m A0 13) h in
    let upper = not_there m A1 13 6 (place m A1 13) (place_is_first m A1 13) k in
    rw (lower, upper) refl

spelled_as : (m : MemoryMap) (c : ℕ) (lower upper sign : Option ℕ) → (c ≡ 32 → ⊥) → place m A0 c ≡ lower
    → place m A1 c ≡ upper → a2_place m c ≡ sign → spelling m c ≡ spelled lower upper sign c
unfolding spelling
spelled_as m c lower upper sign other h k l =
    let test : (c == 32) ≡ false = grind (arith, nat_tests) in
    rw (test, h, k, l) refl

pub spelling_by_cases : SpellingByCases
spelling_by_cases m c other = (
  λ z found. spelled_as m c (Some z) (place m A1 c) (a2_place m c) other
      (there m A0 c 6 z (place m A0 c) (place_is_first m A0 c) found) refl refl,
  λ no_lower. let lower = not_there m A0 c 6 (place m A0 c) (place_is_first m A0 c) no_lower in (
    λ z found. spelled_as m c None (Some z) (a2_place m c) other lower
        (there m A1 c 6 z (place m A1 c) (place_is_first m A1 c) found) refl,
    λ no_upper. let upper = not_there m A1 c 6 (place m A1 c) (place_is_first m A1 c) no_upper in (
      λ z found. spelled_as m c None None (Some z) other lower upper
          (there m A2 c 7 z (a2_place m c) (a2_place_is_first m c) found),
      λ no_sign. spelled_as m c None None None other lower upper
          (not_there m A2 c 7 (a2_place m c) (a2_place_is_first m c) no_sign),
    ),
  ),
)

pub ruleset of_keys_mean_their_words = (spellings_mean, key_means, space_is_zero, new_line_is_seven, spelling_by_cases)
