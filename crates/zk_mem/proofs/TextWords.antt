-- The words of a text, one after another.
use Rattle.std.proofs.Common.{◌≡◌, ◌≤◌, ◌<◌, ℕ, ◌+◌, ◌*◌, List, [], ◌∷◌, length, drop, get_or, Option, Some, None}
use Rattle.std.proofs.Common.{option_map, nat_le, nat_lt, Bool, true, false, refl, sym, ap, ◌∙◌, arith, drop-cons}
use Rattle.std.proofs.Common.{add-one, if◌then◌else◌}
use Rattle.std.proofs.lemmas.Bool.Decides.{nat_tests}
use Rattle.std.proofs.lemmas.List.{drop_all, length-drop}
use Rattle.zk_mem.specs.Header.{word_in}
use Rattle.zk_mem.specs.Map.{MemoryMap, code_word_at}
use Rattle.zk_mem.specs.Words.{word_before, word_and, words_in, words_at, text_end_at}
use Rattle.zk_mem.specs.Laws.{TextLiesInside}

-- two bytes at the front of the rest
pub two_bytes : (xs : List ℕ) (i : ℕ) → i + 1 < length xs → drop i xs ≡ get_or xs i 0 ∷ get_or xs (i + 1) 0
    ∷ drop (i + 2) xs
two_bytes xs i h =
    let two : i + 2 ≡ i + 1 + 1 = omega arith in
    let first : drop i xs ≡ get_or xs i 0 ∷ drop (i + 1) xs = (rw (add-one i) (drop-cons xs i 0 (omega arith))) in
    let second : drop (i + 1) xs ≡ get_or xs (i + 1) 0 ∷ drop (i + 1 + 1)
    xs = (rw (add-one (i + 1)) (drop-cons xs (i + 1) 0 (omega arith))) in
    rw (two, first, second) refl

-- whether both bytes of a word lie in the story
pub by_room : (m : MemoryMap) (a : ℕ) (b : Bool) → nat_lt (a + 1) (length m.bytes) ≡ b
    → code_word_at m a ≡ (if b then Some (word_in m.bytes a) else None)
unfolding code_word_at
by_room m a b e = rw e refl

-- the text at an address begins with the word there
pub word_there : (m : MemoryMap) (a w : ℕ) → code_word_at m a ≡ Some w → words_at m a ≡ word_and w (words_at m (a + 2))
unfolding words_at words_in code_word_at
word_there m a w h = go (nat_lt (a + 1) (length m.bytes)) refl
  where
    go : (b : Bool) → nat_lt (a + 1) (length m.bytes) ≡ b → words_in (drop a m.bytes) ≡ word_and w
        (words_in (drop (a + 2) m.bytes))
    go true e =
        let room : a + 1 < length m.bytes = grind (arith, nat_tests) in
        let word : word_in m.bytes a ≡ w = (let some = sym (by_room m a true e) ∙ h in cc) in
        rw (two_bytes m.bytes a room, ← word) refl
    go false e = let none = sym (by_room m a false e) ∙ h in absurd cc

-- no text begins where there is no word
short_words : (xs : List ℕ) → length xs < 2 → words_in xs ≡ None
unfolding words_in
short_words [] h = refl
short_words (x ∷ []) h = refl
short_words (x ∷ y ∷ xs) h = absurd (omega arith)

pub word_gone : (m : MemoryMap) (a : ℕ) → code_word_at m a ≡ None → words_at m a ≡ None
unfolding words_at
word_gone m a h = go (nat_lt (a + 1) (length m.bytes)) refl
  where
    go : (b : Bool) → nat_lt (a + 1) (length m.bytes) ≡ b → words_in (drop a m.bytes) ≡ None
    go true e = let some = sym (by_room m a true e) ∙ h in absurd cc
    go false e =
        let room : length m.bytes ≤ a + 1 = grind (arith, nat_tests) in
        short_words (drop a m.bytes) (omega (arith, length-drop a m.bytes))

-- the end of a text is that of what is left of it
end_before : (a w : ℕ) (o : Option (List ℕ)) → option_map (λ (ws : List ℕ). a + 2 * length ws)
    (word_before w o) ≡ option_map (λ (ws : List ℕ). a + 2 + 2 * length ws) o
end_before a w None = refl
end_before a w (Some ws) =
    let same : a + 2 * length (w ∷ ws) ≡ a + 2 + 2 * length ws = omega arith in ap (λ (n : ℕ). Some n) same

pub end_on : (m : MemoryMap) (a w : ℕ) → code_word_at m a ≡ Some w → w < 32768 → text_end_at m a ≡ text_end_at m (a + 2)
unfolding text_end_at
end_on m a w h low =
    let test : nat_le 32768 w ≡ false = grind (arith, nat_tests) in
    rw (word_there m a w h, test) (end_before a w (words_at m (a + 2)))

pub end_last : (m : MemoryMap) (a w : ℕ) → code_word_at m a ≡ Some w → 32768 ≤ w → text_end_at m a ≡ Some (a + 2)
unfolding text_end_at
end_last m a w h high =
    let test : nat_le 32768 w ≡ true = grind (arith, nat_tests) in rw (word_there m a w h, test) refl

pub end_gone : (m : MemoryMap) (a : ℕ) → code_word_at m a ≡ None → text_end_at m a ≡ None
unfolding text_end_at
end_gone m a h = rw (word_gone m a h) refl

-- no text begins past the end
pub end_past : (m : MemoryMap) (a : ℕ) → length m.bytes ≤ a → text_end_at m a ≡ None
unfolding text_end_at words_at words_in
end_past m a h = rw (drop_all a m.bytes h) refl

-- a text takes two bytes a word
before_some : (w : ℕ) (o : Option (List ℕ)) (vs : List ℕ) → word_before w o ≡ Some vs
    → (us : List ℕ) × (o ≡ Some us) × (vs ≡ w ∷ us)
before_some w None vs h = absurd cc
before_some w (Some us) vs h = (us, refl, cc)

fit_of : (high low : ℕ) (rest ws : List ℕ) → ((us : List ℕ) → words_in rest ≡ Some us
    → (1 ≤ length us) × (2 * length us ≤ length rest)) → (b : Bool) → nat_le 32768 (256 * high + low) ≡ b
    → word_and (256 * high + low) (words_in rest) ≡ Some ws → (1 ≤ length ws)
    × (2 * length ws ≤ length (high ∷ low ∷ rest))
fit_of high low rest ws fewer true test h =
    let one : ws ≡ (256 * high + low) ∷ [] = (let e = rw test at h in cc) in
    rw one (omega arith, omega arith)
fit_of high low rest ws fewer false test h =
    let p = before_some (256 * high + low) (words_in rest) ws (rw test at h) in
    let less = fewer p.0 p.1 in
    let all : 2 * length ((256 * high + low) ∷ p.0) ≤ length (high ∷ low ∷ rest) = omega (arith, less.1) in
    rw p.2 (omega (arith, less.0), all)

words_fit : (bytes ws : List ℕ) → words_in bytes ≡ Some ws → (1 ≤ length ws) × (2 * length ws ≤ length bytes)
unfolding words_in
words_fit [] ws h = absurd cc
words_fit (high ∷ []) ws h = absurd cc
words_fit (high ∷ low ∷ rest) ws h =
    fit_of high low rest ws (λ us e. words_fit rest us e) (nat_le 32768 (256 * high + low)) refl h

pub text_lies_inside : TextLiesInside
unfolding words_at
text_lies_inside m a ws h =
    let fewer = words_fit (drop a m.bytes) ws h in
    (fewer.0, omega (arith, fewer.0, fewer.1, length-drop a m.bytes))

inside_of : (m : MemoryMap) (a end : ℕ) (o : Option (List ℕ)) → words_at m a ≡ o → text_end_at m a ≡ Some end
    → end ≤ length m.bytes
unfolding text_end_at
inside_of m a end None e h = let none = rw e at h in absurd cc
inside_of m a end (Some ws) e h =
    let there : end ≡ a + 2 * length ws = (let some = rw e at h in cc) in
    let fits = text_lies_inside m a ws e in
    omega (arith, there, fits.1)

pub end_inside : (m : MemoryMap) (a end : ℕ) → text_end_at m a ≡ Some end → end ≤ length m.bytes
end_inside m a end h = inside_of m a end (words_at m a) refl h

pub ruleset of_text_end = (end_on, end_last, end_gone, end_past, end_inside)
