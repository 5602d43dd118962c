-- Unicode tables and the codes of characters.
use Rattle.std.proofs.Common.{◌≡◌, ◌≤◌, ◌<◌, ◌⊎◌, inl, inr, ℕ, zero, suc, ◌+◌, ◌-◌, ◌*◌, List, [], ◌∷◌, length, take}
use Rattle.std.proofs.Common.{drop, get_or, slice_get, Some, None, Bool, true, false, nat_lt, ◌==◌, if◌then◌else◌, refl}
use Rattle.std.proofs.Common.{sym, subst, Option, ◌∙◌, ap, arith, length-take, min}
use Rattle.std.proofs.lemmas.Bool.Decides.{nat_tests}
use Rattle.std.proofs.lemmas.Grind.{common_steps}
use Rattle.std.proofs.lemmas.List.{drop_all, get_or-take}
use Rattle.std.proofs.lemmas.Option.{slice_get-get_or, slice_get_past}
use Rattle.std.specs.List.{list_all}
use Rattle.zk_text.proofs.Lists.{drop_item, past}
use Rattle.zk_mem.specs.Header.{word_in}
use Rattle.zk_mem.specs.Map.{MemoryMap, code_word_at}
use Rattle.zk_text.specs.declared.extra.Table.{Table}
use Rattle.zk_text.specs.Reading.{words_of, IsInside}
use Rattle.zk_text.specs.declared.extra.TheConstants.{DEFAULT_CHARACTERS}
use Rattle.zk_text.specs.Standard.{standard_characters}
use Rattle.zk_text.specs.Laws.{CodeIsLeast, CharacterHasCode}
use Rattle.zk_text.specs.Extra.{ExtraTable, words_from, characters, character, is_ascii, code_from, code_of}

pub length-words_from : (bytes : List ℕ) (a n : ℕ) → length (words_from bytes a n) ≡ n
unfolding words_from
length-words_from bytes a zero = refl
length-words_from bytes a (suc n) = ap suc (length-words_from bytes (a + 2) n)

word_from : (bytes : List ℕ) (a n i : ℕ) → i < n → get_or (words_from bytes a n) i 0 ≡ word_in bytes (a + 2 * i)
unfolding words_from
word_from bytes a zero i h = absurd (omega (arith, h))
word_from bytes a (suc n) zero h = let place : a + 2 * 0 ≡ a = omega arith in rw place refl
word_from bytes a (suc n) (suc i) h =
    let place : a + 2 * suc i ≡ a + 2 + 2 * i = omega arith in
    let fewer : i < n = omega (arith, h) in
    rw place (word_from bytes (a + 2) n i fewer)

-- a word of a table, among the first 97
word_there : (bytes : List ℕ) (a n i : ℕ) → i < min n 97 → slice_get (take 97 (words_from bytes a n)) i ≡ Some
    (word_in bytes (a + 2 * i))
word_there bytes a n i h =
    let within : i < length (take 97 (words_from bytes a n)) = omega (
      arith,
      h,
      length-take 97 (words_from bytes a n),
      length-words_from bytes a n,
    ) in
    let near : i < 97 = omega (arith, h) in
    let stated : i < n = omega (arith, h) in
    let here : slice_get (take 97 (words_from bytes a n)) i ≡ Some (get_or (take 97 (words_from bytes a n)) i 0) =
    slice_get-get_or _ i 0 within in
    let same : get_or (take 97 (words_from bytes a n)) i 0 ≡ word_in bytes (a + 2 * i) = get_or-take 97
    (words_from bytes a n) i 0 near ∙ word_from bytes a n i stated in
    here ∙ ap (λ (x : ℕ). Some x) same

word_gone : (bytes : List ℕ) (a n i : ℕ) → min n 97 ≤ i → slice_get (take 97 (words_from bytes a n)) i ≡ None
word_gone bytes a n i h =
    slice_get_past _ i (omega (arith, h, length-take 97 (words_from bytes a n), length-words_from bytes a n))

pub standard_item : (t : ExtraTable) (i : ℕ) → t ≡ None → slice_get (characters t) i ≡ slice_get DEFAULT_CHARACTERS i
unfolding standard_characters
standard_item t i h = rw h refl

-- a word of an own table is read where it lies
word_read : (m : MemoryMap) (a : ℕ) → a + 1 < length m.bytes → code_word_at m a ≡ Some (word_in m.bytes a)
unfolding code_word_at
word_read m a h = let test : nat_lt (a + 1) (length m.bytes) ≡ true = grind (arith, nat_tests) in rw test refl

item_by : (t : ExtraTable) (m : MemoryMap) (table : Table) (i : ℕ)
    → t ≡ Some (words_from m.bytes (table.at + 1) table.count) → table.at + 1 + 2 * table.count ≤ length m.bytes
    → i < min table.count 97 → code_word_at m (table.at + 1 + 2 * i) ≡ slice_get (characters t) i
item_by t m table i h inside near =
    let room : table.at + 1 + 2 * i + 1 < length m.bytes = omega (arith, inside, near) in
    rw h (word_read m (table.at + 1 + 2 * i) room ∙ sym (word_there m.bytes (table.at + 1) table.count i near))

pub own_item : (t : ExtraTable) (m : MemoryMap) (own : Option Table) (table : Table) (i : ℕ)
    → t ≡ words_of m.bytes own → own ≡ Some table → IsInside m.bytes own → i < min table.count 97
    → code_word_at m (table.at + 1 + 2 * i) ≡ slice_get (characters t) i
own_item t m own table i view some inside near =
    item_by t m table i (view ∙ ap (words_of m.bytes) some) (subst (IsInside m.bytes) some inside) near

pub no_item : (t : ExtraTable) (bytes : List ℕ) (a n i : ℕ) → t ≡ Some (words_from bytes a n) → min n 97 ≤ i
    → slice_get (characters t) i ≡ None
no_item t bytes a n i h far = rw h (word_gone bytes a n i far)

-- an item of a table whose items all have 16 bits
pub narrow_of : (xs : List ℕ) (i c : ℕ) → list_all (λ (x : ℕ). nat_lt x 65536) xs ≡ true
    → slice_get xs i ≡ Some c → c < 65536
narrow_of [] i c all h = absurd cc
narrow_of (x ∷ xs) zero c all h =
    let same : x ≡ c = cc in let narrow : x < 65536 = grind (arith, nat_tests, common_steps) in
    omega (arith, same, narrow)
narrow_of (x ∷ xs) (suc i) c all h = narrow_of xs i c (grind (arith, nat_tests, common_steps)) h

-- a search for a code goes on, ends with it or without
pub code_on : (xs : List ℕ) (i x c : ℕ) → slice_get xs i ≡ Some x → (x ≡ c → ⊥)
    → code_from (drop i xs) (155 + i) c ≡ code_from (drop (i + 1) xs) (155 + (i + 1)) c
unfolding code_from
code_on xs i x c h other =
    let test : (x == c) ≡ false = grind (arith, nat_tests) in
    let next : 155 + (i + 1) ≡ 155 + i + 1 = omega arith in
    rw (drop_item xs i x h, test, next) refl

pub code_here : (xs : List ℕ) (i x c : ℕ) → slice_get xs i ≡ Some x → x ≡ c
    → code_from (drop i xs) (155 + i) c ≡ Some (155 + i)
unfolding code_from
code_here xs i x c h same =
    let test : (x == c) ≡ true = grind (arith, nat_tests) in
    rw (drop_item xs i x h, test) refl

pub code_end : (xs : List ℕ) (i code c : ℕ) → slice_get xs i ≡ None → code_from (drop i xs) code c ≡ None
unfolding code_from
code_end xs i code c h = let gone : length xs ≤ i = past xs i h in rw (drop_all i xs gone) refl

few : (t : ExtraTable) → length (characters t) ≤ 97
unfolding standard_characters
few None = omega arith
few (Some ws) = omega (arith, length-take 97 ws)

pub code_limit : (t : ExtraTable) (i code c : ℕ) → 97 ≤ i → code_from (drop i (characters t)) code c ≡ None
unfolding code_from
code_limit t i code c h =
    let gone : length (characters t) ≤ i = omega (arith, few t) in rw (drop_all i (characters t) gone) refl

-- what a search finds is the least place of the character
least_head : (xs : List ℕ) (x code c : ℕ) (found : ℕ) → x ≡ c → Some code ≡ Some found
    → (code ≤ found) × (slice_get (x ∷ xs) (found - code) ≡ Some c) × ((j : ℕ) → slice_get (x ∷ xs) j ≡ Some c
    → found ≤ code + j)
least_head xs x code c found same e =
    let here : found ≡ code = cc in
    let none : found - code ≡ 0 = omega (arith, here) in
    (omega (arith, here), rw (none, same) refl, λ j k. omega (arith, here))

other_place : (xs : List ℕ) (x code c found : ℕ) → (x ≡ c → ⊥)
    → ((j : ℕ) → slice_get xs j ≡ Some c → found ≤ code + 1 + j) → (j : ℕ) → slice_get (x ∷ xs) j ≡ Some c
    → found ≤ code + j
other_place xs x code c found other rest zero e = absurd (other cc)
other_place xs x code c found other rest (suc j) e = let less = rest j e in omega (arith, less)

least_tail : (xs : List ℕ) (x code c found : ℕ) → (x ≡ c → ⊥) → (code + 1 ≤ found)
    × (slice_get xs (found - (code + 1)) ≡ Some c) × ((j : ℕ) → slice_get xs j ≡ Some c → found ≤ code + 1 + j)
    → (code ≤ found) × (slice_get (x ∷ xs) (found - code) ≡ Some c) × ((j : ℕ) → slice_get (x ∷ xs) j ≡ Some c
    → found ≤ code + j)
least_tail xs x code c found other rest =
    let more : found - code ≡ suc (found - (code + 1)) = omega (arith, rest.0) in
    (omega (arith, rest.0), rw more rest.1, other_place xs x code c found other rest.2)

least_of : (xs : List ℕ) (x code c found : ℕ) → (code_from xs (code + 1) c ≡ Some found
    → (code + 1 ≤ found) × (slice_get xs (found - (code + 1)) ≡ Some c)
    × ((j : ℕ) → slice_get xs j ≡ Some c → found ≤ code + 1 + j)) → (b : Bool) → (x == c) ≡ b
    → code_from (x ∷ xs) code c ≡ Some found → (code ≤ found) × (slice_get (x ∷ xs) (found - code) ≡ Some c)
    × ((j : ℕ) → slice_get (x ∷ xs) j ≡ Some c → found ≤ code + j)
unfolding code_from
least_of xs x code c found rest true test h =
    let same : x ≡ c = grind (arith, nat_tests) in
    least_head xs x code c found same (rw test at h)
least_of xs x code c found rest false test h =
    let other : x ≡ c → ⊥ = (λ e. let yes_same : (x == c) ≡ true = grind (arith, nat_tests) in absurd cc) in
    least_tail xs x code c found other (rest (rw test at h))

from_least : (xs : List ℕ) (code c found : ℕ) → code_from xs code c ≡ Some found
    → (code ≤ found) × (slice_get xs (found - code) ≡ Some c) × ((j : ℕ) → slice_get xs j ≡ Some c → found ≤ code + j)
unfolding code_from
from_least [] code c found h = absurd cc
from_least (x ∷ xs) code c found h =
    least_of xs x code c found (λ e. from_least xs (code + 1) c found e) (x == c) refl h

-- a character of a list is found
found_of : (xs : List ℕ) (x code c : ℕ) → (b : Bool) → (x == c) ≡ b
    → ((b ≡ false) → (least : ℕ) × (code_from xs (code + 1) c ≡ Some least))
    → (least : ℕ) × (code_from (x ∷ xs) code c ≡ Some least)
unfolding code_from
found_of xs x code c true test rest = (code, rw test refl)
found_of xs x code c false test rest = let p = rest refl in (p.0, rw test p.1)

head_found : (xs : List ℕ) (x code c : ℕ) → x ≡ c → (least : ℕ) × (code_from (x ∷ xs) code c ≡ Some least)
unfolding code_from
head_found xs x code c same = let test : (x == c) ≡ true = grind (arith, nat_tests) in (code, rw test refl)

from_found : (xs : List ℕ) (j code c : ℕ) → slice_get xs j ≡ Some c → (least : ℕ) × (code_from xs code c ≡ Some least)
from_found [] j code c h = absurd cc
from_found (x ∷ xs) zero code c h = head_found xs x code c cc
from_found (x ∷ xs) (suc j) code c h = found_of xs x code c (x == c) refl (λ e. from_found xs j (code + 1) c h)

-- a code has a character of its own from ASCII, or one of the table
ascii_bounds : (c : ℕ) → is_ascii c ≡ true → (32 ≤ c) × (c < 127)
ascii_bounds c h = (grind (arith, nat_tests, common_steps), grind (arith, nat_tests, common_steps))

beyond_ascii : (t : ExtraTable) (code c : ℕ) → (b : Bool) → nat_lt code 155 ≡ b
    → (if b then None else slice_get (characters t) (code - 155)) ≡ Some c
    → (155 ≤ code) × (slice_get (characters t) (code - 155) ≡ Some c)
beyond_ascii t code c true test h = absurd cc
beyond_ascii t code c false test h = (grind (arith, nat_tests), h)

character_of : (t : ExtraTable) (code c : ℕ) → (b : Bool) → is_ascii code ≡ b → character t code ≡ Some c
    → ((is_ascii code ≡ true) × (code ≡ c)) ⊎ ((155 ≤ code) × (slice_get (characters t) (code - 155) ≡ Some c))
unfolding character
character_of t code c true test h = let e = rw test at h in inl (test, cc)
character_of t code c false test h = inr (beyond_ascii t code c (nat_lt code 155) refl (rw test at h))

pub character_cases : (t : ExtraTable) (code c : ℕ) → character t code ≡ Some c
    → ((is_ascii code ≡ true) × (code ≡ c)) ⊎ ((155 ≤ code) × (slice_get (characters t) (code - 155) ≡ Some c))
character_cases t code c h = character_of t code c (is_ascii code) refl h

extra_character : (t : ExtraTable) (code : ℕ) → 155 ≤ code → character t code ≡ slice_get (characters t) (code - 155)
unfolding character
extra_character t code h =
    let ascii : is_ascii code ≡ false = grind (arith, nat_tests, common_steps) in
    let low : nat_lt code 155 ≡ false = grind (arith, nat_tests) in
    rw (ascii, low) refl

ascii_character : (t : ExtraTable) (c : ℕ) → is_ascii c ≡ true → character t c ≡ Some c
unfolding character
ascii_character t c h = rw h refl

least_ascii : (c other : ℕ) (t : ExtraTable) → is_ascii c ≡ true → ((is_ascii other ≡ true) × (other ≡ c))
    ⊎ ((155 ≤ other) × (slice_get (characters t) (other - 155) ≡ Some c)) → c ≤ other
least_ascii c other t h (inl p) = omega (arith, p.1)
least_ascii c other t h (inr p) = let bounds = ascii_bounds c h in omega (arith, bounds.1, p.0)

least_extra : (c code other : ℕ) (t : ExtraTable) → is_ascii c ≡ false
    → ((j : ℕ) → slice_get (characters t) j ≡ Some c → code ≤ 155 + j) → ((is_ascii other ≡ true) × (other ≡ c))
    ⊎ ((155 ≤ other) × (slice_get (characters t) (other - 155) ≡ Some c)) → code ≤ other
least_extra c code other t h least (inl p) = let yes_ascii = rw p.1 at p.0 in absurd cc
least_extra c code other t h least (inr p) = let less = least (other - 155) p.1 in omega (arith, less, p.0)

least_code : (t : ExtraTable) (c code : ℕ) → (b : Bool) → is_ascii c ≡ b → code_of t c ≡ Some code
    → (character t code ≡ Some c) × ((other : ℕ) → character t other ≡ Some c → code ≤ other)
unfolding code_of
least_code t c code true test h =
    let same : code ≡ c = (let e = rw test at h in cc) in
    rw same (ascii_character t c test, λ other k. least_ascii c other t test (character_cases t other c k))
least_code t c code false test h =
    let p = from_least (characters t) 155 c code (rw test at h) in
    (extra_character t code p.0 ∙ p.1, λ other k. least_extra c code other t test p.2 (character_cases t other c k))

pub code_is_least : CodeIsLeast
code_is_least t c code h = least_code t c code (is_ascii c) refl h

found_code : (t : ExtraTable) (c code : ℕ) → (b : Bool) → is_ascii c ≡ b → ((is_ascii code ≡ true) × (code ≡ c))
    ⊎ ((155 ≤ code) × (slice_get (characters t) (code - 155) ≡ Some c)) → (least : ℕ) × (code_of t c ≡ Some least)
unfolding code_of
found_code t c code true test p = (c, rw test refl)
found_code t c code false test (inl p) = let yes_ascii = rw p.1 at p.0 in absurd cc
found_code t c code false test (inr p) = let q = from_found (characters t) (code - 155) 155 c p.1 in (q.0, rw test q.1)

pub character_has_code : CharacterHasCode
character_has_code t c code h = found_code t c code (is_ascii c) refl (character_cases t code c h)

pub ruleset of_from_char = (code_here, code_on, code_end, code_limit)
