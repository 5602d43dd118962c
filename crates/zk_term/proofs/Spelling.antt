-- The characters that bytes spell.
use Rattle.std.proofs.Common.{◌≡◌, ◌≤◌, ◌<◌, ◌⊎◌, inl, inr, ⊎_elim, min, ℕ, zero, suc, ◌+◌, ◌-◌, Bool, true, false}
use Rattle.std.proofs.Common.{cond, List, [], ◌∷◌, ◌++◌, length, take, drop, Option, Some, None, append_assoc, refl}
use Rattle.std.proofs.Common.{sym, ◌∙◌, ap, subst, arith, length-append, nat_le, slice_get}
use Rattle.std.proofs.lemmas.List.{take-append-drop, take_at, drop_at, length-take-le, append-nil}
use Rattle.std.proofs.lemmas.Bool.{and_parts, cases_lt}
use Rattle.std.proofs.lemmas.Bool.Decides.{nat_tests}
use Rattle.std.proofs.lemmas.Str.{IsUtf8-from_is_utf8, is_utf8-from_IsUtf8, IsUtf8-encode, encode_same, length-encode}
use Rattle.std.proofs.lemmas.Str.{len_utf8_bounds, chars-encodes, chars-nil}
use borrow.Author.Count.{below_more}
use Rattle.std.specs.Char.{IsScalar, len_utf8}
use Rattle.std.specs.Prelude.{encode_utf8, encode_utf8_all}
use Rattle.std.specs.Str.{is_utf8, chars, all_scalars, IsUtf8}
use Rattle.zk_term.specs.Characters.{Spells, character_length, character_of, character_step, begins_with_characters}
use Rattle.zk_term.specs.Characters.{characters_past, characters_of, CharactersAreSpelled, CharactersAreDetermined}
use Rattle.zk_term.specs.Characters.Spells.{Ends, Character, Stray}

-- bytes begin with a character
pub record Begins (bytes : List ℕ) : Type 0 where
  pub c : ℕ
  pub rest : List ℕ
  pub is_scalar : IsScalar c
  pub whole : bytes ≡ encode_utf8 c ++ rest

begins_by : (n : ℕ) (bytes cs : List ℕ) → suc n ≤ length bytes → all_scalars cs ≡ true
    → encode_utf8_all cs ≡ take (suc n) bytes → (b : Begins bytes) × (len_utf8 b.c ≤ suc n)
begins_by n bytes [] w s e = absurd (omega (arith, length-take-le (suc n) bytes w, ap length e))
begins_by n bytes (c ∷ cs) w s e = (
  record {
    c = c;
    rest = encode_utf8_all cs ++ drop (suc n) bytes;
    is_scalar = (and_parts _ _ s).0;
    whole = sym (take-append-drop (suc n) bytes) ∙ ap (λ l. l ++ drop (suc n) bytes) (sym e)
        ∙ append_assoc (encode_utf8 c) (encode_utf8_all cs) (drop (suc n) bytes);
  },
  omega (
    arith,
    length-encode c,
    length-append (encode_utf8 c) (encode_utf8_all cs),
    length-take-le (suc n) bytes w,
    ap length e,
  ),
)

-- characters at the front begin with one
begins_some : (n : ℕ) (bytes : List ℕ) → begins_with_characters (suc n) bytes ≡ true
    → (b : Begins bytes) × (len_utf8 b.c ≤ suc n)
unfolding begins_with_characters
begins_some n bytes h =
    let both = and_parts (nat_le (suc n) (length bytes)) (is_utf8 (take (suc n) bytes)) h in
    let u = IsUtf8-from_is_utf8 (take (suc n) bytes) both.1 in
    begins_by n bytes u.0 (grind (arith, nat_tests)) u.1.0 u.1.1

-- a character that stands there is found at its own length, and not before
begins_at : (c : ℕ) (rest : List ℕ) → IsScalar c → begins_with_characters (len_utf8 c) (encode_utf8 c ++ rest) ≡ true
unfolding begins_with_characters
begins_at c rest h =
    let long : nat_le (len_utf8 c) (length (encode_utf8 c ++ rest)) ≡ true = grind (
      arith,
      nat_tests,
      length-encode c,
      length-append (encode_utf8 c) rest,
    ) in
    let utf8 : is_utf8 (take (len_utf8 c) (encode_utf8 c ++ rest))
    ≡ true = rw (take_at (encode_utf8 c) rest (len_utf8 c) (length-encode c))
    (is_utf8-from_IsUtf8 (encode_utf8 c) (IsUtf8-encode c h)) in
    rw (long, utf8) refl

not_by : (x : Bool) (c : ℕ) (rest : List ℕ) (n : ℕ) → begins_with_characters n (encode_utf8 c ++ rest) ≡ x
    → n < len_utf8 c → 0 < n → x ≡ false
not_by false c rest n e h some = refl
not_by true c rest zero e h some = absurd (omega arith)
not_by true c rest (suc n) e h some =
    let b = begins_some n (encode_utf8 c ++ rest) e in
    let same = encode_same c b.0.c rest b.0.rest b.0.whole in
    absurd (omega (arith, ap len_utf8 same.0, b.1))

-- nothing is found at the lengths before
abbrev pub NoneBefore : List ℕ → ℕ → Type 0
NoneBefore bytes n = (k : ℕ) → k < n → 0 < k → begins_with_characters k bytes ≡ false

pub length_at : (bytes : List ℕ) (n : ℕ) → 0 < n → n ≤ 4 → NoneBefore bytes n
    → begins_with_characters n bytes ≡ true → character_length bytes ≡ n
unfolding character_length
length_at bytes zero p q none h = absurd (omega arith)
length_at bytes (suc zero) p q none h = rw h refl
length_at bytes (suc (suc zero)) p q none h = rw (none 1 (omega arith) (omega arith), h) refl
length_at bytes (suc (suc (suc zero))) p q none h =
    rw (none 1 (omega arith) (omega arith), none 2 (omega arith) (omega arith), h) refl
length_at bytes (suc (suc (suc (suc zero)))) p q none h =
    rw (
      none 1 (omega arith) (omega arith),
      none 2 (omega arith) (omega arith),
      none 3 (omega arith) (omega arith),
      h,
    ) refl
length_at bytes (suc (suc (suc (suc (suc n))))) p q none h = absurd (omega arith)

pub length_none : (bytes : List ℕ) → NoneBefore bytes 5 → character_length bytes ≡ 0
unfolding character_length
length_none bytes none =
    rw (
      none 1 (omega arith) (omega arith),
      none 2 (omega arith) (omega arith),
      none 3 (omega arith) (omega arith),
      none 4 (omega arith) (omega arith),
    ) refl

pub length_of : (c : ℕ) (rest : List ℕ) → IsScalar c → character_length (encode_utf8 c ++ rest) ≡ len_utf8 c
length_of c rest h =
    let b = len_utf8_bounds c in
    length_at (encode_utf8 c ++ rest) (len_utf8 c) (omega (arith, b)) b.1
    (λ k below some. not_by _ c rest k refl below some) (begins_at c rest h)

none_utf8 : (x : Bool) (bytes : List ℕ) (n : ℕ) → begins_with_characters n bytes ≡ x
    → (IsUtf8 (take n bytes) → ⊥) → x ≡ false
unfolding begins_with_characters
none_utf8 false bytes n e h = refl
none_utf8 true bytes n e h =
    absurd (h (IsUtf8-from_is_utf8 (take n bytes) (and_parts (nat_le n (length bytes)) (is_utf8 (take n bytes)) e).1))

-- nothing is found at one more length
pub none_more : (bytes : List ℕ) (n : ℕ) → NoneBefore bytes n → (IsUtf8 (take n bytes) → ⊥) → NoneBefore bytes (n + 1)
none_more bytes n none h =
    below_more (λ k. 0 < k → begins_with_characters k bytes ≡ false) n none (λ some. none_utf8 _ bytes n refl h)

past_end : (bytes : List ℕ) (k : ℕ) → length bytes < k → begins_with_characters k bytes ≡ false
unfolding begins_with_characters
past_end bytes k w = let long : nat_le k (length bytes) ≡ false = grind (arith, nat_tests) in rw long refl

-- nothing is found at all
pub none_found : (bytes : List ℕ) (n : ℕ) → NoneBefore bytes (n + 1) → n ≡ min (length bytes) 4
    → None ≡ character_of (character_length bytes) bytes
none_found bytes n none e =
    let all : NoneBefore bytes 5 = λ k below some. ⊎_elim (λ (near : k < n + 1). none k near some)
    (λ (far : n + 1 ≤ k). past_end bytes k (omega arith)) (cases_lt k (n + 1)) in
    rw (length_none bytes all, chars-nil) refl

-- the character that a search finds is the first one
pub first_found : (bytes text : List ℕ) (n : ℕ) (x : Option ℕ) → NoneBefore bytes n → 0 < n → n ≤ 4
    → n ≤ length bytes → text ≡ take n bytes → IsUtf8 (take n bytes) → x ≡ slice_get (chars text) 0
    → x ≡ character_of (character_length bytes) bytes
unfolding begins_with_characters
first_found bytes text n x none some low within same u e =
    let long : nat_le n (length bytes) ≡ true = grind (arith, nat_tests) in
    let found : begins_with_characters n bytes ≡ true = rw (long, is_utf8-from_IsUtf8 (take n bytes) u) refl in
    e ∙ ap (λ l. slice_get (chars l) 0) same ∙ ap (λ k. character_of k bytes)
    (sym (length_at bytes n some low none found))

-- ---- bytes begin with a character, or with a stray byte

abbrev first_of : Bool → Bool → Bool → Bool → ℕ
first_of p q r s = cond p 1 (cond q 2 (cond r 3 (cond s 4 0)))

found : (p q r s : Bool) → (first_of p q r s ≡ 0) ⊎ ((p ≡ true) ⊎ ((q ≡ true) ⊎ ((r ≡ true) ⊎ (s ≡ true))))
found true q r s = inr (inl refl)
found false true r s = inr (inr (inl refl))
found false false true s = inr (inr (inr (inl refl)))
found false false false true = inr (inr (inr (inr refl)))
found false false false false = inl refl

pub front : (bytes : List ℕ) → (character_length bytes ≡ 0) ⊎ Begins bytes
unfolding character_length
front bytes =
    elim (found (begins_with_characters 1 bytes) (begins_with_characters 2 bytes) (begins_with_characters 3 bytes)
    (begins_with_characters 4 bytes)) [
      | inl e ↦ inl e
      | inr (inl h) ↦ inr (begins_some 0 bytes h).0
      | inr (inr (inl h)) ↦ inr (begins_some 1 bytes h).0
      | inr (inr (inr (inl h))) ↦ inr (begins_some 2 bytes h).0
      | inr (inr (inr (inr h))) ↦ inr (begins_some 3 bytes h).0
    ]

stray_by : (bytes : List ℕ) → (Begins bytes → ⊥) → (character_length bytes ≡ 0) ⊎ Begins bytes
    → character_length bytes ≡ 0
stray_by bytes none (inl e) = e
stray_by bytes none (inr b) = absurd (none b)

pub stray_length : (bytes : List ℕ) → (Begins bytes → ⊥) → character_length bytes ≡ 0
stray_length bytes none = stray_by bytes none (front bytes)

-- ---- the characters, one by one

past_drop : (n : ℕ) (bytes : List ℕ) → characters_past n bytes ≡ characters_past 0 (drop n bytes)
unfolding characters_past
past_drop zero bytes = refl
past_drop (suc n) [] = refl
past_drop (suc n) (b ∷ bytes) = past_drop n bytes

by_length : (n : ℕ) (b : ℕ) (bytes : List ℕ) → character_length (b ∷ bytes) ≡ suc n
    → characters_of (b ∷ bytes) ≡ character_of (suc n) (b ∷ bytes) ∷ characters_of (drop (suc n) (b ∷ bytes))
unfolding characters_past characters_of
by_length n b bytes e =
    let k : suc n - 1 ≡ n = omega arith in
    rw e (ap (λ l. character_of (suc n) (b ∷ bytes) ∷ l) (rw k (past_drop n bytes)))

first_of_one : (c : ℕ) (rest : List ℕ) → IsScalar c → character_of (len_utf8 c) (encode_utf8 c ++ rest) ≡ Some c
first_of_one c rest h =
    let all : chars (encode_utf8 c) ≡ c ∷ [] = ap chars (sym (append-nil (encode_utf8 c)))
    ∙ chars-encodes (c ∷ []) (rw h refl) in
    rw (take_at (encode_utf8 c) rest (len_utf8 c) (length-encode c), all) refl

character_by : (n : ℕ) (bytes : List ℕ) (c : ℕ) (rest : List ℕ) → IsScalar c → bytes ≡ encode_utf8 c ++ rest
    → len_utf8 c ≡ suc n → characters_of bytes ≡ Some c ∷ characters_of rest
character_by n [] c rest h e l =
    absurd (omega (arith, ap length e, length-append (encode_utf8 c) rest, length-encode c))
character_by n (b ∷ bytes) c rest h e l =
    let long : character_length (b ∷ bytes) ≡ suc n = ap character_length e ∙ length_of c rest h ∙ l in
    let first : character_of (suc n) (b ∷ bytes) ≡ Some c = ap (λ k. character_of k (b ∷ bytes)) (sym l)
    ∙ ap (λ k. character_of (len_utf8 c) k) e ∙ first_of_one c rest h in
    let behind : drop (suc n) (b ∷ bytes) ≡ rest = ap (λ k. drop k (b ∷ bytes)) (sym l)
    ∙ ap (λ k. drop (len_utf8 c) k) e ∙ drop_at (encode_utf8 c) rest (len_utf8 c) (length-encode c) in
    by_length n b bytes long ∙ ap (λ x. x ∷ characters_of (drop (suc n) (b ∷ bytes))) first
    ∙ ap (λ l. Some c ∷ characters_of l) behind

pub character_on : (bytes : List ℕ) (c : ℕ) (rest : List ℕ) → IsScalar c → bytes ≡ encode_utf8 c ++ rest
    → characters_of bytes ≡ Some c ∷ characters_of rest
character_on bytes c rest h e =
    let b = len_utf8_bounds c in
    let l : len_utf8 c ≡ suc (len_utf8 c - 1) = omega (arith, b) in
    character_by (len_utf8 c - 1) bytes c rest h e l

pub stray_on : (b : ℕ) (bytes : List ℕ) → character_length (b ∷ bytes) ≡ 0 → characters_of (b ∷ bytes) ≡ None
    ∷ characters_of bytes
unfolding characters_past characters_of
stray_on b bytes e = rw (e, chars-nil) refl

-- what bytes begin with, and the characters after it
pub record Steps (bytes : List ℕ) (x : Option ℕ) : Type 0 where
  pub now : characters_of bytes ≡ x ∷ characters_of (drop (character_step x) bytes)
  pub some : 0 < character_step x
  pub within : character_step x ≤ length bytes

steps_by : (b : ℕ) (bytes : List ℕ) → (character_length (b ∷ bytes) ≡ 0) ⊎ Begins (b ∷ bytes)
    → Steps (b ∷ bytes) (character_of (character_length (b ∷ bytes)) (b ∷ bytes))
steps_by b bytes (inl e) =
    let none : character_of (character_length (b ∷ bytes)) (b ∷ bytes) ≡ None = rw (e, chars-nil) refl in
    rw none (record { now = stray_on b bytes e; some = omega arith; within = omega arith })
steps_by b bytes (inr h) =
    let l = len_utf8_bounds h.c in
    let first : character_of (character_length (b ∷ bytes)) (b ∷ bytes) ≡ Some
    h.c = ap (λ k. character_of (character_length k) k) h.whole
    ∙ ap (λ k. character_of k (encode_utf8 h.c ++ h.rest)) (length_of h.c h.rest h.is_scalar)
    ∙ first_of_one h.c h.rest h.is_scalar in
    let behind : drop (len_utf8 h.c) (b ∷ bytes) ≡ h.rest = ap (λ k. drop (len_utf8 h.c) k) h.whole
    ∙ drop_at (encode_utf8 h.c) h.rest (len_utf8 h.c) (length-encode h.c) in
    rw first (record {
      now = character_on (b ∷ bytes) h.c h.rest h.is_scalar h.whole ∙ ap (λ k. Some h.c ∷ characters_of k) (sym behind);
      some = omega (arith, l);
      within = omega (arith, ap length h.whole, length-append (encode_utf8 h.c) h.rest, length-encode h.c);
    })

pub steps_on : (bytes : List ℕ) (x : Option ℕ) → 0 < length bytes → x ≡ character_of (character_length bytes)
    bytes → Steps bytes x
steps_on [] x h e = absurd (omega arith)
steps_on (b ∷ bytes) x h e = rw e (steps_by b bytes (front (b ∷ bytes)))

-- ---- laws

spelled_at : (n b : ℕ) (bytes : List ℕ) → length (b ∷ bytes) ≤ suc n
    → ((rest : List ℕ) → length rest ≤ n → Spells rest (characters_of rest)) → (character_length (b ∷ bytes) ≡ 0)
    ⊎ Begins (b ∷ bytes) → Spells (b ∷ bytes) (characters_of (b ∷ bytes))
spelled_at n b bytes w more (inl e) =
    rw (stray_on b bytes e) (Stray b bytes (characters_of bytes)
    (λ c rest h whole. absurd (omega (
      arith,
      len_utf8_bounds c,
      sym e ∙ ap character_length whole
          ∙ length_of c rest h,
    ))) (more bytes (omega arith)))
spelled_at n b bytes w more (inr h) =
    let short : length h.rest ≤ n = omega (
      arith,
      ap length h.whole,
      length-append (encode_utf8 h.c) h.rest,
      length-encode h.c,
      len_utf8_bounds h.c,
    ) in
    rw (character_on (b ∷ bytes) h.c h.rest h.is_scalar h.whole)
    (subst (λ k. Spells k (Some h.c ∷ characters_of h.rest)) (sym h.whole)
    (Character h.c h.rest (characters_of h.rest) h.is_scalar (more h.rest short)))

spelled_by : (n : ℕ) (bytes : List ℕ) → length bytes ≤ n → Spells bytes (characters_of bytes)
unfolding characters_past characters_of
spelled_by n [] w = Ends
spelled_by zero (b ∷ bytes) w = absurd (omega arith)
spelled_by (suc n) (b ∷ bytes) w = spelled_at n b bytes w (λ rest. spelled_by n rest) (front (b ∷ bytes))

pub characters_are_spelled : CharactersAreSpelled
characters_are_spelled bytes = spelled_by (length bytes) bytes (omega arith)

one_spelling : (bytes : List ℕ) (cs : List (Option ℕ)) → Spells bytes cs → cs ≡ characters_of bytes
unfolding characters_past characters_of
one_spelling _ _ Ends = refl
one_spelling _ _ (Character c bytes cs h more) =
    ap (λ l. Some c ∷ l) (one_spelling bytes cs more) ∙ sym (character_on (encode_utf8 c ++ bytes) c bytes h refl)
one_spelling _ _ (Stray b bytes cs none more) = ap (λ l. None ∷ l) (one_spelling bytes cs more)
    ∙ sym (stray_on b bytes (stray_length (b ∷ bytes) (λ h. none h.c h.rest h.is_scalar h.whole)))

pub characters_are_determined : CharactersAreDetermined
characters_are_determined bytes cs ds h k = one_spelling bytes cs h ∙ sym (one_spelling bytes ds k)
