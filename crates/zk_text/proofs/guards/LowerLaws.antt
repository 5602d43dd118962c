-- The laws of lower case.
use Rattle.std.proofs.Common.{◌≡◌, ◌≤◌, ◌<◌, ℕ, ◌+◌, ◌-◌, List, [], ◌∷◌, Option, Some, None, Bool, true, false, not}
use Rattle.std.proofs.Common.{◌&&◌, ◌||◌, nat_le, ◌==◌, is_some, is_none, refl, ◌∙◌, arith}
use Rattle.std.specs.Option.{option_and_then}
use Rattle.std.specs.List.{list_all}
use Rattle.std.proofs.lemmas.Bool.Decides.{nat_tests}
use Rattle.std.proofs.lemmas.Grind.{common_steps}
use Rattle.zk_text.specs.Standard.{standard_characters, ascii_capitals, extra_capitals, capitals}
use Rattle.zk_text.specs.Extra.{ExtraTable, character, code_from, code_of, small_letter, small_code, lower_code}
use Rattle.zk_text.specs.guards.TableLaws.{SmallIsAbove, CapitalHasSmall, LowerIsSmall, OthersStay, OwnLowersAscii}
use Rattle.zk_text.specs.guards.TableLaws.{LowerOfA1, LowerTwice}
use Rattle.zk_mem.proofs.Below.{all_below, each_below}
use Rattle.zk_text.proofs.Tables.{code_is_least}
use Rattle.zk_text.proofs.guards.Standard.{a0_is_small, a1_is_capital, code_of_character}
use Rattle.zk_text.proofs.Lower.{lower_capital, below_capitals}

-- what is true of each pair is true of a capital and its small letter
pair_here : (p : ℕ → ℕ → Bool) (x : ℕ × ℕ) (pairs : List (ℕ × ℕ)) (c small : ℕ) (a b : Bool) → p x.0 x.1 ≡ a
    → (x.0 == c) ≡ b → list_all (λ (x : ℕ × ℕ). p x.0 x.1) (x ∷ pairs) ≡ true
    → small_letter (x ∷ pairs) c ≡ Some small → (list_all (λ (x : ℕ × ℕ). p x.0 x.1) pairs ≡ true
    → small_letter pairs c ≡ Some small → p c small ≡ true) → p c small ≡ true
unfolding small_letter
pair_here p x pairs c small false b e test all h rest = let no = rw e at all in absurd cc
pair_here p x pairs c small true true e test all h rest =
    let first : x.0 ≡ c = grind (arith, nat_tests) in
    let second : x.1 ≡ small = (let some = rw test at h in cc) in
    rw (← first, ← second) e
pair_here p x pairs c small true false e test all h rest = rest (rw e at all) (rw test at h)

pair_of : (p : ℕ → ℕ → Bool) (pairs : List (ℕ × ℕ)) (c small : ℕ)
    → list_all (λ (x : ℕ × ℕ). p x.0 x.1) pairs ≡ true → small_letter pairs c ≡ Some small → p c small ≡ true
unfolding small_letter
pair_of p [] c small all h = absurd cc
pair_of p (x ∷ pairs) c small all h =
    pair_here p x pairs c small (p x.0 x.1) (x.0 == c) refl refl all h (pair_of p pairs c small)

-- a small letter by its number
is_above : ℕ → ℕ → Bool
is_above c small = small == c + 32 || c == 0x152 && small == 0x153

pub small_is_above : SmallIsAbove
unfolding is_above ascii_capitals extra_capitals
small_is_above c small h =
    let test : is_above c small ≡ true = pair_of is_above capitals c small refl h in
    grind (arith, nat_tests, common_steps)

is_small : Option ℕ → ℕ → Bool
is_small None small = false
is_small (Some s) small = s == small

small_of : (o : Option ℕ) (small : ℕ) → is_small o small ≡ true → o ≡ Some small
unfolding is_small
small_of None small h = absurd cc
small_of (Some s) small h = let same : s ≡ small = grind (arith, nat_tests) in rw same refl

-- a capital of Latin-1 has no code, or its small letter
has_small : ℕ → Bool
has_small c = not (is_some (code_of None c)) || is_small (small_letter capitals c) (c + 32)

all_have_small : (k : ℕ) → k < 31 → has_small (192 + k) ≡ true
unfolding all_below has_small is_small small_letter code_of code_from standard_characters ascii_capitals extra_capitals
all_have_small k h = each_below (λ i. has_small (192 + i)) 31 refl k h

with_code : (c code : ℕ) → code_of None c ≡ Some code → has_small c ≡ true
    → is_small (small_letter capitals c) (c + 32) ≡ true
unfolding has_small
with_code c code h test = rw h at test

pub capital_has_small : CapitalHasSmall
capital_has_small code c h low high =
    let place : 192 + (c - 192) ≡ c = omega arith in
    let test = rw place at (all_have_small (c - 192) (omega arith)) in
    small_of (small_letter capitals c) (c + 32) (with_code c code (code_of_character code c h) test)

-- a small letter has a code, and is no capital
some_of : (o : Option ℕ) → is_some o ≡ true → (x : ℕ) × (o ≡ Some x)
some_of None h = absurd cc
some_of (Some x) h = (x, refl)

none_of : (o : Option ℕ) → is_none o ≡ true → o ≡ None
none_of None h = refl
none_of (Some x) h = absurd cc

small_has_code : (c small : ℕ) → small_letter capitals c ≡ Some small → (code : ℕ) × (code_of None small ≡ Some code)
unfolding code_of code_from standard_characters ascii_capitals extra_capitals
small_has_code c small h =
    some_of (code_of None small) (pair_of (λ (x y : ℕ). is_some (code_of None y)) capitals c small refl h)

small_is_none : (c small : ℕ) → small_letter capitals c ≡ Some small → small_letter capitals small ≡ None
unfolding small_letter ascii_capitals extra_capitals
small_is_none c small h =
    none_of (small_letter capitals small) (pair_of (λ (x y : ℕ). is_none (small_letter capitals y)) capitals c
    small refl h)

-- a code in lower case
lower_to : (t : ExtraTable) (code small : ℕ) → small_code t code ≡ Some small → lower_code t code ≡ small
unfolding lower_code
lower_to t code small h = rw h refl

lower_same : (t : ExtraTable) (code : ℕ) → small_code t code ≡ None → lower_code t code ≡ code
unfolding lower_code
lower_same t code h = rw h refl

pub lower_is_small : LowerIsSmall
lower_is_small code c small h k =
    let there = small_has_code c small k in
    let chain : small_code None code ≡ Some there.0 = rw (h, k) there.1 in
    let lower = lower_to None code there.0 chain in
    rw lower (code_is_least None small there.0 there.1).0

stays_by : (code : ℕ) (o : Option ℕ) → character None code ≡ o
    → ((c : ℕ) → o ≡ Some c → small_letter capitals c ≡ None) → lower_code None code ≡ code
stays_by code None e h = lower_same None code (rw e refl)
stays_by code (Some c) e h = let none = h c refl in lower_same None code (rw (e, none) refl)

pub others_stay : OthersStay
others_stay code h = stays_by code (character None code) refl h

ascii_none : (code : ℕ) (o : Option ℕ) → small_letter ascii_capitals code ≡ o → 91 ≤ code → o ≡ None
unfolding ascii_capitals
ascii_none code None e h = refl
ascii_none code (Some small) e h =
    let low : nat_le code 90 ≡ true = pair_of (λ (x y : ℕ). nat_le x 90) ascii_capitals code small refl e in
    let below : code ≤ 90 = grind (arith, nat_tests) in
    absurd (omega arith)

own_above : (words : List ℕ) (code : ℕ) → 91 ≤ code → lower_code (Some words) code ≡ code
own_above words code h = lower_same (Some words) code (ascii_none code (small_letter ascii_capitals code) refl h)

pub own_lowers_ascii : OwnLowersAscii
own_lowers_ascii words code = (
  λ low high. let capital : code ≤ 90 = omega arith in lower_capital (Some words) code low capital,
  below_capitals (Some words) code,
  own_above words code,
)

pub lower_of_a1 : LowerOfA1
lower_of_a1 t m z low high =
    let lower = lower_capital t (65 + (z - 6)) (omega arith) (omega arith) in
    let small : 65 + (z - 6) + 32 ≡ 97 + (z - 6) = omega arith in
    rw (a1_is_capital m z low high, a0_is_small m z low high) (lower ∙ small)

-- what is in lower case stays
chain_on : (o : Option ℕ) (f : ℕ → Option ℕ) (y : ℕ) → option_and_then f o ≡ Some y
    → (x : ℕ) × (o ≡ Some x) × (f x ≡ Some y)
chain_on None f y h = absurd cc
chain_on (Some x) f y h = (x, refl, h)

small_stays : (code small : ℕ) → small_code None code ≡ Some small → lower_code None small ≡ small
small_stays code small h =
    let last = chain_on (option_and_then (small_letter capitals) (character None code)) (code_of None) small h in
    let first = chain_on (character None code) (small_letter capitals) last.0 last.1 in
    let shown = (code_is_least None last.0 small last.2).0 in
    stays_by small (Some last.0) shown (λ c e. let same : c ≡ last.0 = cc in
    rw same (small_is_none first.0 last.0 first.2))

own_stays : (words : List ℕ) (code small : ℕ) → small_letter ascii_capitals code ≡ Some small
    → lower_code (Some words) small ≡ small
unfolding small_letter ascii_capitals
own_stays words code small h =
    lower_same (Some words) small (none_of (small_letter ascii_capitals small)
    (pair_of (λ (x y : ℕ). is_none (small_letter ascii_capitals y)) ascii_capitals code small refl h))

twice_by : (t : ExtraTable) (code : ℕ) (o : Option ℕ) → small_code t code ≡ o
    → ((small : ℕ) → o ≡ Some small → lower_code t small ≡ small) → lower_code t (lower_code t code) ≡ lower_code t code
twice_by t code None e h = let same = lower_same t code e in rw same same
twice_by t code (Some small) e h = let lower = lower_to t code small e in rw lower (h small refl)

pub lower_twice : LowerTwice
lower_twice None code = twice_by None code (small_code None code) refl (small_stays code)
lower_twice (Some words) code = twice_by (Some words) code (small_code (Some words) code) refl (own_stays words code)

pub ruleset of_lower_is_of_capitals =
    (small_is_above, capital_has_small, lower_is_small, others_stay, own_lowers_ascii, lower_of_a1, lower_twice)
