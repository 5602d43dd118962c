-- The bytes of a key, read as a text.
use Rattle.std.proofs.Common.{◌≡◌, ◌<◌, ℕ, zero, suc, ◌+◌, ◌*◌, ◌/◌, ◌%◌, List, [], ◌∷◌, ◌++◌, length, Option, Some}
use Rattle.std.proofs.Common.{None, Bool, true, false, nat_le, nat_lt, ◌==◌, refl, ◌∙◌, ap, arith, lit<}
use Rattle.std.specs.List.{All}
use Rattle.std.proofs.lemmas.Bool.Decides.{nat_tests}
use Rattle.std.proofs.lemmas.List.Elements.{All-nil, All-cons, All-head, All-tail, All-append, All-take}
use Rattle.zk_mem.specs.Map.{MemoryMap}
use Rattle.zk_mem.specs.Words.{word_and, words_in}
use Rattle.zk_text.specs.declared.alphabet.Row.TheVariants.{A0, A1, A2}
use Rattle.zk_text.specs.Words.{z_characters}
use Rattle.zk_text.specs.Keys.{place, a2_place, spelled, spelling, spellings, fives, key_characters, packed_word}
use Rattle.zk_text.specs.Keys.{two_bytes, two_words, three_words, key_of}
use Rattle.zk_text.specs.guards.KeyLaws.{Finds, KeyIsText, KeyReads, characters_in_key}
use Rattle.zk_text.proofs.guards.Places.{place_is_first, a2_place_is_first}
use Rattle.zk_text.proofs.Spells.{key_length}
use Rattle.zk_text.proofs.guards.SpellLaws.{key_means}

-- what is spelled are Z-characters
abbrev IsZ : ℕ → Type 0
IsZ z = z < 32

one : (z : ℕ) → z < 32 → All IsZ (z ∷ [])
one z h = All-cons IsZ z [] h (All-nil IsZ)

two : (y z : ℕ) → y < 32 → z < 32 → All IsZ (y ∷ z ∷ [])
two y z h k = All-cons IsZ y (z ∷ []) h (one z k)

spelled_fit : (m : MemoryMap) (c : ℕ) (lower upper sign : Option ℕ) → c < 1024 → Finds m A0 c 6 lower
    → Finds m A1 c 6 upper → Finds m A2 c 7 sign → All IsZ (spelled lower upper sign c)
spelled_fit m c (Some z) upper sign low h k l = one z h.within
spelled_fit m c None (Some z) sign low h k l = two 4 z (lit< tt) k.within
spelled_fit m c None None (Some z) low h k l = two 5 z (lit< tt) l.within
spelled_fit m c None None None low h k l =
    All-cons IsZ 5 (6 ∷ c / 32 ∷ c % 32 ∷ []) (lit< tt)
    (All-cons IsZ 6 (c / 32 ∷ c % 32 ∷ []) (lit< tt) (two (c / 32) (c % 32) (omega arith) (omega arith)))

fit_by : (m : MemoryMap) (c : ℕ) (b : Bool) → (c == 32) ≡ b → c < 1024 → All IsZ (spelling m c)
unfolding spelling
fit_by m c true test low = rw test (one 0 (lit< tt))
fit_by m c false test low =
    rw test (spelled_fit m c (place m A0 c) (place m A1 c) (a2_place m c) low (place_is_first m A0 c)
    (place_is_first m A1 c) (a2_place_is_first m c))

spellings_fit : (m : MemoryMap) (text : List ℕ) → All (λ (c : ℕ). c < 1024) text → All IsZ (spellings m text)
unfolding spellings
spellings_fit m [] h = All-nil IsZ
spellings_fit m (c ∷ text) h =
    All-append IsZ (spelling m c) (spellings m text)
    (fit_by m c (c == 32) refl (All-head (λ (x : ℕ). x < 1024) c text h))
    (spellings_fit m text (All-tail (λ (x : ℕ). x < 1024) c text h))

fives_fit : (n : ℕ) → All IsZ (fives n)
unfolding fives
fives_fit zero = All-nil IsZ
fives_fit (suc n) = All-cons IsZ 5 (fives n) (lit< tt) (fives_fit n)

key_fits : (m : MemoryMap) (most : ℕ) (text : List ℕ) → All (λ (c : ℕ). c < 1024) text
    → All IsZ (key_characters m most text)
key_fits m most text h =
    All-take IsZ most (spellings m text ++ fives most) (All-append IsZ (spellings m text) (fives most)
    (spellings_fit m text h) (fives_fit most))

-- two bytes are a word
bytes_word : (w : ℕ) (rest : List ℕ) → words_in (two_bytes w ++ rest) ≡ word_and w (words_in rest)
unfolding words_in
bytes_word w rest = let whole : 256 * (w / 256) + w % 256 ≡ w = omega arith in rw whole refl

before : (w : ℕ) (rest ws : List ℕ) → w < 32768 → words_in rest ≡ Some ws
    → words_in (two_bytes w ++ rest) ≡ Some (w ∷ ws)
before w rest ws low h =
    let test : nat_le 32768 w ≡ false = grind (arith, nat_tests) in rw (bytes_word w rest, test, h) refl

marked : (w : ℕ) → words_in (two_bytes (32768 + w)) ≡ Some ((32768 + w) ∷ [])
marked w = let test : nat_le 32768 (32768 + w) ≡ true = grind (arith, nat_tests) in bytes_word (32768 + w) []
    ∙ (rw test refl)

packed_low : (zs : List ℕ) (i : ℕ) → packed_word zs i < 32768
packed_low zs i = omega arith

words_of_two : (zs : List ℕ) → words_in (two_words zs) ≡ Some (packed_word zs 0 ∷ (32768 + packed_word zs 3) ∷ [])
words_of_two zs =
    before (packed_word zs 0) (two_bytes (32768 + packed_word zs 3)) _ (packed_low zs 0) (marked (packed_word zs 3))

words_of_three : (zs : List ℕ) → words_in (three_words zs) ≡ Some
    (packed_word zs 0 ∷ packed_word zs 3 ∷ (32768 + packed_word zs 6) ∷ [])
words_of_three zs =
    before (packed_word zs 0) (two_bytes (packed_word zs 3) ++ two_bytes (32768 + packed_word zs 6)) _ (packed_low zs 0)
    (before (packed_word zs 3) (two_bytes (32768 + packed_word zs 6)) _ (packed_low zs 3) (marked (packed_word zs 6)))

-- three Z-characters from a word, marked or not
unpack : (a b c : ℕ) (ws : List ℕ) → a < 32 → b < 32 → c < 32
    → z_characters ((1024 * (a % 32) + 32 * (b % 32) + c % 32) ∷ ws) ≡ a ∷ b ∷ c ∷ z_characters ws
unfolding z_characters
unpack a b c ws h k l =
    let w : ℕ = 1024 * (a % 32) + 32 * (b % 32) + c % 32 in
    let first : w / 1024 % 32 ≡ a = omega arith in
    let second : w / 32 % 32 ≡ b = omega arith in
    let third : w % 32 ≡ c = omega arith in
    rw (first, second, third) refl

unpack_marked : (a b c : ℕ) → a < 32 → b < 32 → c < 32
    → z_characters ((32768 + (1024 * (a % 32) + 32 * (b % 32) + c % 32)) ∷ []) ≡ a ∷ b ∷ c ∷ []
unfolding z_characters
unpack_marked a b c h k l =
    let w : ℕ = 32768 + (1024 * (a % 32) + 32 * (b % 32) + c % 32) in
    let first : w / 1024 % 32 ≡ a = omega arith in
    let second : w / 32 % 32 ≡ b = omega arith in
    let third : w % 32 ≡ c = omega arith in
    rw (first, second, third) refl

-- the first three of a list
record Three (zs : List ℕ) (n : ℕ) : Type 0 where
  a : ℕ
  b : ℕ
  c : ℕ
  rest : List ℕ
  is : zs ≡ a ∷ b ∷ c ∷ rest
  left : length rest ≡ n
  a_low : a < 32
  b_low : b < 32
  c_low : c < 32
  rest_low : All IsZ rest

three : (zs : List ℕ) (n : ℕ) → length zs ≡ 3 + n → All IsZ zs → Three zs n
three [] n h low = absurd (omega arith)
three (a ∷ []) n h low = absurd (omega arith)
three (a ∷ b ∷ []) n h low = absurd (omega arith)
three (a ∷ b ∷ c ∷ rest) n h low = record {
  a = a;
  b = b;
  c = c;
  rest = rest;
  is = refl;
  left = omega arith;
  a_low = All-head IsZ a (b ∷ c ∷ rest) low;
  b_low = All-head IsZ b (c ∷ rest) (All-tail IsZ a (b ∷ c ∷ rest) low);
  c_low = All-head IsZ c rest (All-tail IsZ b (c ∷ rest) (All-tail IsZ a (b ∷ c ∷ rest) low));
  rest_low = All-tail IsZ c rest (All-tail IsZ b (c ∷ rest) (All-tail IsZ a (b ∷ c ∷ rest) low));
}

none_left : (zs : List ℕ) → length zs ≡ 0 → zs ≡ []
none_left [] h = refl
none_left (z ∷ zs) h = absurd (omega arith)

last_three : (zs : List ℕ) (t : Three zs 0) → z_characters ((32768 + packed_word zs 0) ∷ []) ≡ zs
last_three zs t =
    let none = none_left t.rest t.left in
    rw (t.is, none) (unpack_marked t.a t.b t.c t.a_low t.b_low t.c_low)

first_three : (zs ws : List ℕ) (n : ℕ) (t : Three zs n) → z_characters ws ≡ t.rest
    → z_characters (packed_word zs 0 ∷ ws) ≡ zs
first_three zs ws n t h =
    rw t.is (unpack t.a t.b t.c ws t.a_low t.b_low t.c_low ∙ ap (λ (rest : List ℕ). t.a ∷ t.b ∷ t.c ∷ rest) h)

after_three : (zs : List ℕ) (n : ℕ) (t : Three zs n) → packed_word zs 3 ≡ packed_word t.rest 0
after_three zs n t = rw t.is refl

after_six : (zs : List ℕ) (n : ℕ) (t : Three zs n) → packed_word zs 6 ≡ packed_word t.rest 3
after_six zs n t = rw t.is refl

six_characters : (zs : List ℕ) → length zs ≡ 6 → All IsZ zs
    → z_characters (packed_word zs 0 ∷ (32768 + packed_word zs 3) ∷ []) ≡ zs
six_characters zs h low =
    let first = three zs 3 h low in
    let last = three first.rest 0 first.left first.rest_low in
    first_three zs ((32768 + packed_word zs 3) ∷ []) 3 first (rw (after_three zs 3 first) (last_three first.rest last))

nine_characters : (zs : List ℕ) → length zs ≡ 9 → All IsZ zs
    → z_characters (packed_word zs 0 ∷ packed_word zs 3 ∷ (32768 + packed_word zs 6) ∷ []) ≡ zs
nine_characters zs h low =
    let first = three zs 6 h low in
    first_three zs (packed_word zs 3 ∷ (32768 + packed_word zs 6) ∷ []) 6 first
    (rw (after_three zs 6 first, after_six zs 6 first) (six_characters first.rest first.left first.rest_low))

text_by : (m : MemoryMap) (text : List ℕ) (b : Bool) → nat_lt m.version 4 ≡ b → All (λ (c : ℕ). c < 1024) text
    → (ws : List ℕ) × (words_in (key_of m text) ≡ Some ws)
    × (z_characters ws ≡ key_characters m (characters_in_key m) text)
unfolding key_of
text_by m text true test h =
    rw test (
      _,
      words_of_two (key_characters m 6 text),
      six_characters (key_characters m 6 text)
          (key_length m 6 text) (key_fits m 6 text h),
    )
text_by m text false test h =
    rw test (
      _,
      words_of_three (key_characters m 9 text),
      nine_characters (key_characters m 9 text)
          (key_length m 9 text) (key_fits m 9 text h),
    )

pub key_is_text : KeyIsText
key_is_text m text h = text_by m text (nat_lt m.version 4) refl h

pub key_reads : KeyReads
key_reads m expand text h short =
    let t = key_is_text m text h in
    (t.0, t.1, rw t.2 (key_means m expand (characters_in_key m) text short))
