-- What goes out of an open line at each byte.
use Rattle.std.proofs.Common.{◌≡◌, ◌∙◌, ◌≤◌, ◌<◌, ◌⊎◌, inl, inr, ℕ, ◌+◌, ◌-◌, ◌==◌, Bool, true, false, cond, List, []}
use Rattle.std.proofs.Common.{◌∷◌, ◌++◌, drop, length, map, append_assoc, append-nil, refl, sym, ap, subst, arith}
use Rattle.std.proofs.Common.{length-append}
use Rattle.std.proofs.lemmas.Bool.Decides.{nat_tests}
use Rattle.std.proofs.lemmas.List.Sums.{sum_by-append}
use Rattle.std.specs.List.{join_with_byte, slice_split}
use Rattle.zk_term.specs.Wrapping.{is_space, begins_character, columns, fits, fits_after_space, further_words}
use Rattle.zk_term.specs.Wrapping.{all_words, words_after_space, wrapped, wrapped_line}
use Rattle.zk_term.specs.declared.open_line.LineKind.{LineKind}
use Rattle.zk_term.specs.declared.open_line.LineKind.TheVariants.{Empty, Row, Words, AfterSpace}
use Rattle.zk_term.specs.Lines.{is_new_line}
use Rattle.zk_term.specs.OpenLines.{BreaksLine, EndsLine, GoesOn, HasNoSpace, HoldsBy, HoldsOn, IsFullFor, IsHeld}
use Rattle.zk_term.specs.OpenLines.{IsHeldAfterSpace, IsOpen, rest_after_space, rest_by, rest_of_line, rest_of_text}
use Rattle.zk_term.specs.OpenLines.{rest_of_words, Takes, TakesAmongWords, TakesInLine, WordsGoOn}
use Rattle.zk_term.specs.declared.open_line.Line.{Line}

-- ---- parts of a list

-- a first part and those after it
pub record Parts (p : ℕ → Bool) (bytes : List ℕ) : Type 0 where
  pub first : List ℕ
  pub more : List (List ℕ)
  pub are : slice_split p bytes ≡ first ∷ more

parts_by : (p : ℕ → Bool) (b : ℕ) (bytes : List ℕ) (x : Bool) → p b ≡ x → Parts p bytes → Parts p (b ∷ bytes)
parts_by p b bytes true e h = record { first = []; more = slice_split p bytes; are = rw e refl }
parts_by p b bytes false e h = record { first = b ∷ h.first; more = h.more; are = rw (e, h.are) refl }

pub parts : (p : ℕ → Bool) (bytes : List ℕ) → Parts p bytes
parts p [] = record { first = []; more = []; are = refl }
parts p (b ∷ bytes) = parts_by p b bytes _ refl (parts p bytes)

-- a word and what comes after it
pub word_goes_on : (word rest : List ℕ) → HasNoSpace word → (h : Parts is_space rest)
    → slice_split is_space (word ++ rest) ≡ (word ++ h.first) ∷ h.more
word_goes_on [] rest h p = p.are
word_goes_on (b ∷ word) rest h p = rw (word_goes_on word rest h.1 p, h.0) refl

word_ends : (word rest : List ℕ) → HasNoSpace word → slice_split is_space (word ++ 32 ∷ rest) ≡ word
    ∷ slice_split is_space rest
word_ends [] rest h = refl
word_ends (b ∷ word) rest h = rw (word_ends word rest h.1, h.0) refl

no_space_splits : (word : List ℕ) → HasNoSpace word → slice_split is_space word ≡ word ∷ []
no_space_splits [] h = refl
no_space_splits (b ∷ word) h = rw (no_space_splits word h.1, h.0) refl

-- ---- columns

pub columns_both : (s t : List ℕ) → columns (s ++ t) ≡ columns s + columns t
columns_both s t = sum_by-append (λ b. cond (begins_character b) 1 0) s t

columns_first : (b : ℕ) (s : List ℕ) → columns (b ∷ s) ≡ columns (b ∷ []) + columns s
columns_first b s = columns_both (b ∷ []) s

pub columns_space : (s : List ℕ) → columns (32 ∷ s) ≡ 1 + columns s
columns_space s = columns_both (32 ∷ []) s

-- ---- words

word_that_fits : (width room room' : ℕ) (word : List ℕ) (words : List (List ℕ)) → columns word < room
    → length word < 1024 → room' + (1 + columns word) ≡ room → further_words width room (word ∷ words) ≡ (32 ∷ word)
    ++ further_words width room' words
unfolding further_words
word_that_fits width room room' word words some short e =
    let test : fits room word ≡ true = grind (arith, nat_tests) in
    let same : room - (1 + columns word) ≡ room' = omega arith in
    rw (test, same) refl

word_too_long : (width room : ℕ) (word : List ℕ) (words : List (List ℕ)) → (room ≤ columns word)
    ⊎ (1024 ≤ length word) → further_words width room (word ∷ words) ≡ (10 ∷ word)
    ++ further_words width (width - columns word) words
unfolding further_words
word_too_long width room word words (inl h) =
    let test : fits room word ≡ false = grind (arith, nat_tests) in rw test refl
word_too_long width room word words (inr h) =
    let test : fits room word ≡ false = grind (arith, nat_tests) in rw test refl

-- the word that is held back goes out before a space
out_at_a_space : (width room : ℕ) (word rest : List ℕ) → HasNoSpace word → length word < 1024
    → rest_of_words width room (32 ∷ word) (32 ∷ rest) ≡ (32 ∷ word) ++ rest_of_words width room [] (32 ∷ rest)
out_at_a_space width room word rest plain short =
    ap (further_words width (room + columns (32 ∷ word) - 0)) (word_ends word rest plain)
    ∙ word_that_fits width (room + columns (32 ∷ word) - 0) (room + 0 - 0) word (slice_split is_space rest)
    (omega (arith, columns_space word)) short (omega (arith, columns_space word))

pub out_before_a_space : (width room : ℕ) (held rest : List ℕ) → IsHeld held
    → rest_of_words width room held (32 ∷ rest) ≡ held ++ rest_of_words width room [] (32 ∷ rest)
out_before_a_space width room [] rest h = refl
out_before_a_space width room (b ∷ word) rest h = rw h.0 (out_at_a_space width room word rest h.1 h.2)

-- a space for which there is room
pub space_kept : (width room : ℕ) (rest : List ℕ) → 1 ≤ room → rest_of_words width room []
    (32 ∷ rest) ≡ rest_of_words width (room - 1) (32 ∷ []) rest
space_kept width room rest some = let e : room + 0 ≡ (room - 1) + 1 = omega arith in
    ap (λ r. all_words width r (slice_split is_space (32 ∷ rest))) e

-- one for which there is none
pub space_broken : (width room : ℕ) (rest : List ℕ) → room ≡ 0
    → rest_of_words width room [] (32 ∷ rest) ≡ (10 ∷ []) ++ rest_of_words width width [] rest
space_broken width room rest none =
    let p = parts is_space rest in
    let same : width - columns p.first ≡ (width + 0) - columns p.first = omega arith in
    rw p.are (word_too_long width (room + 0 - 0) p.first p.more (inl (omega arith))
    ∙ ap (λ r. 10 ∷ (p.first ++ further_words width r p.more)) same)

-- a byte of a word that is not held back
pub letter_out : (width room b : ℕ) (rest : List ℕ) → is_space b ≡ false
    → rest_of_words width room [] (b ∷ rest) ≡ (b ∷ []) ++ rest_of_words width (room - columns (b ∷ [])) [] rest
letter_out width room b rest plain =
    let p = parts is_space rest in
    let same : (room + 0) - columns (b ∷ p.first) ≡ (room - columns (b ∷ []) + 0) - columns
    p.first = omega (arith, columns_first b p.first) in
    rw (plain, p.are) (ap (λ r. b ∷ (p.first ++ further_words width r p.more)) same)

-- a byte of a word that still fits
pub letter_held : (width room b : ℕ) (held rest : List ℕ) → columns (b ∷ []) ≤ room
    → rest_of_words width room held (b ∷ rest) ≡ rest_of_words width (room - columns (b ∷ [])) (held ++ b ∷ []) rest
letter_held width room b held rest some =
    let same : room + columns held ≡ (room - columns (b ∷ [])) + columns
    (held ++ b ∷ []) = omega (arith, columns_both held (b ∷ [])) in
    ap (λ r. all_words width r (slice_split is_space (held ++ b ∷ rest))) same
    ∙ ap (λ s. all_words width ((room - columns (b ∷ [])) + columns (held ++ b ∷ [])) (slice_split is_space s))
    (sym (append_assoc held (b ∷ []) rest))

-- a byte with which a word does not fit any more
letter_breaks_word : (width room b : ℕ) (word rest : List ℕ) → HasNoSpace word → is_space b ≡ false
    → (room < columns (b ∷ [])) ⊎ (1023 ≤ length word) → rest_of_words width room (32 ∷ word)
    (b ∷ rest) ≡ (10 ∷ (word ++ b ∷ [])) ++ rest_of_words width (width - (columns word + columns (b ∷ []))) [] rest
letter_breaks_word width room b word rest plain letter full =
    let p = parts is_space rest in
    let q : Parts is_space (b ∷ rest) = record { first = b ∷ p.first; more = p.more; are = rw (letter, p.are) refl } in
    let whole : columns (word ++ b ∷ p.first) ≡ columns word + (columns (b ∷ []) + columns p.first) = columns_both
    word (b ∷ p.first) ∙ ap (λ n. columns word + n) (columns_first b p.first) in
    let front = columns_space word in
    let long : (room + columns (32 ∷ word) - 0 ≤ columns (word ++ b ∷ p.first))
    ⊎ (1024 ≤ length (word ++ b ∷ p.first)) =
    elim full [
      | inl h ↦ inl (omega (arith, whole, front))
      | inr h ↦ inr (omega (arith, length-append word (b ∷ p.first)))
    ] in
    let same : width - columns (word ++ b ∷ p.first) ≡ (width - (columns word + columns (b ∷ [])) + 0) - columns
    p.first = omega (arith, whole) in
    ap (further_words width (room + columns (32 ∷ word) - 0)) (word_goes_on word (b ∷ rest) plain q)
    ∙ word_too_long width (room + columns (32 ∷ word) - 0) (word ++ b ∷ p.first) p.more long
    ∙ ap (λ r. 10 ∷ ((word ++ b ∷ p.first) ++ further_words width r p.more)) same
    ∙ ap (λ s. 10 ∷ (s ++ further_words width ((width - (columns word + columns (b ∷ [])) + 0) - columns p.first)
    p.more)) (sym (append_assoc word (b ∷ []) p.first))
    ∙ ap (λ s. 10 ∷ s) (append_assoc (word ++ b ∷ []) p.first
    (further_words width ((width - (columns word + columns (b ∷ [])) + 0) - columns p.first) p.more))
    ∙ rw p.are refl

-- ---- words behind a space that has gone out

first_that_fits : (width room room' : ℕ) (word : List ℕ) (words : List (List ℕ)) → columns word ≤ room
    → length word ≤ 1024 → room' + columns word ≡ room → words_after_space width room (word ∷ words) ≡ word
    ++ further_words width room' words
first_that_fits width room room' word words some short e =
    let test : fits_after_space room word ≡ true = grind (arith, nat_tests) in
    let same : room - columns word ≡ room' = omega arith in
    rw (test, same) refl

first_too_long : (width room : ℕ) (word : List ℕ) (words : List (List ℕ)) → (room < columns word)
    ⊎ (1024 < length word) → words_after_space width room (word ∷ words) ≡ (10 ∷ word)
    ++ further_words width (width - columns word) words
first_too_long width room word words (inl h) =
    let test : fits_after_space room word ≡ false = grind (arith, nat_tests) in rw test refl
first_too_long width room word words (inr h) =
    let test : fits_after_space room word ≡ false = grind (arith, nat_tests) in rw test refl

-- the word goes out before a space
first_before_a_space : (width room : ℕ) (held rest : List ℕ) → IsHeldAfterSpace held
    → rest_after_space width room held (32 ∷ rest) ≡ held ++ rest_of_words width room [] (32 ∷ rest)
first_before_a_space width room held rest h =
    ap (words_after_space width (room + columns held)) (word_ends held rest h.0)
    ∙ first_that_fits width (room + columns held) (room + 0 - 0) held (slice_split is_space rest) (omega arith) h.1
    (omega arith)

-- a byte of it with which it still fits
first_held : (width room b : ℕ) (held rest : List ℕ) → columns (b ∷ []) ≤ room
    → rest_after_space width room held (b ∷ rest) ≡ rest_after_space width (room - columns (b ∷ []))
    (held ++ b ∷ []) rest
first_held width room b held rest some =
    let same : room + columns held ≡ (room - columns (b ∷ [])) + columns
    (held ++ b ∷ []) = omega (arith, columns_both held (b ∷ [])) in
    ap (λ r. words_after_space width r (slice_split is_space (held ++ b ∷ rest))) same
    ∙ ap (λ s. words_after_space width ((room - columns (b ∷ [])) + columns (held ++ b ∷ [])) (slice_split is_space s))
    (sym (append_assoc held (b ∷ []) rest))

-- a byte with which it does not fit any more
first_breaks : (width room b : ℕ) (held rest : List ℕ) → HasNoSpace held → is_space b ≡ false
    → (room < columns (b ∷ [])) ⊎ (1024 ≤ length held) → rest_after_space width room held (b ∷ rest)
    ≡ ((10 ∷ []) ++ held) ++ rest_of_words width (width - columns held) [] (b ∷ rest)
first_breaks width room b held rest plain letter full =
    let p = parts is_space rest in
    let q : Parts is_space (b ∷ rest) = record { first = b ∷ p.first; more = p.more; are = rw (letter, p.are) refl } in
    let whole : columns (held ++ b ∷ p.first) ≡ columns held + columns (b ∷ p.first) = columns_both held
    (b ∷ p.first) in
    let front = columns_first b p.first in
    let long : (room + columns held < columns (held ++ b ∷ p.first))
    ⊎ (1024 < length (held ++ b ∷ p.first)) =
    elim full [
      | inl h ↦ inl (omega (arith, whole, front))
      | inr h ↦ inr (omega (arith, length-append held (b ∷ p.first)))
    ] in
    let same : width - columns (held ++ b ∷ p.first) ≡ (width - columns held + 0) - columns
    (b ∷ p.first) = omega (arith, whole) in
    ap (words_after_space width (room + columns held)) (word_goes_on held (b ∷ rest) plain q)
    ∙ first_too_long width (room + columns held) (held ++ b ∷ p.first) p.more long
    ∙ ap (λ r. 10 ∷ ((held ++ b ∷ p.first) ++ further_words width r p.more)) same
    ∙ ap (λ s. 10 ∷ s) (append_assoc held (b ∷ p.first)
    (further_words width ((width - columns held + 0) - columns (b ∷ p.first)) p.more))
    ∙ rw q.are refl

-- ---- steps among words

pub space_breaks : (old new : Line) → old.room ≡ 0 → new.width ≡ old.width → new.kind ≡ old.kind
    → new.room ≡ old.width → new.held.items ≡ [] → IsHeld old.held.items
    → WordsGoOn old new 32 (old.held.items ++ 10 ∷ [])
space_breaks old new none width kind room held h = record {
  width = width;
  kind = kind;
  held = rw held tt;
  rest = λ rest.
      rw (width, room, held) (out_before_a_space old.width old.room old.held.items rest h
      ∙ ap (λ l. old.held.items ++ l) (space_broken old.width old.room rest none)
      ∙ sym (append_assoc old.held.items (10 ∷ []) (rest_of_words old.width old.width [] rest)));
}

pub space_is_held : (old new : Line) → 1 ≤ old.room → new.width ≡ old.width → new.kind ≡ old.kind
    → new.room ≡ old.room - 1 → new.held.items ≡ 32 ∷ [] → IsHeld old.held.items → WordsGoOn old new 32 old.held.items
space_is_held old new some width kind room held h = record {
  width = width;
  kind = kind;
  held = rw held (refl, tt, omega arith);
  rest = λ rest.
      rw (width, room, held) (out_before_a_space old.width old.room old.held.items rest h
      ∙ ap (λ l. old.held.items ++ l) (space_kept old.width old.room rest some));
}

plain_on : (word : List ℕ) (b : ℕ) → HasNoSpace word → is_space b ≡ false → HasNoSpace (word ++ b ∷ [])
plain_on [] b h e = (e, tt)
plain_on (c ∷ word) b h e = (h.0, plain_on word b h.1 e)

held_on : (held : List ℕ) (b : ℕ) → 0 < length held → length held < 1024 → IsHeld held → is_space b ≡ false
    → IsHeld (held ++ b ∷ [])
held_on [] b some short h e = absurd (omega arith)
held_on (c ∷ word) b some short h e = (h.0, plain_on word b h.1 e, omega (arith, length-append word (b ∷ [])))

pub letter_goes_out : (old new : Line) (b : ℕ) → old.held.items ≡ [] → new.width ≡ old.width → new.kind ≡ old.kind
    → new.room ≡ old.room - columns (b ∷ []) → new.held.items ≡ [] → is_space b ≡ false → WordsGoOn old new b (b ∷ [])
letter_goes_out old new b none width kind room held e = record {
  width = width;
  kind = kind;
  held = rw held tt;
  rest = λ rest. rw (width, room, held, none) (letter_out old.width old.room b rest e);
}

pub letter_is_held : (old new : Line) (b : ℕ) → 0 < length old.held.items → HoldsOn old new b → is_space b ≡ false
    → IsHeld old.held.items → WordsGoOn old new b []
letter_is_held old new b some on e h = record {
  width = on.width;
  kind = on.kind;
  held = rw on.held (held_on old.held.items b some on.short h e);
  rest = λ rest. rw (on.width, on.left, on.held) (letter_held old.width old.room b old.held.items rest on.room);
}

breaks_by : (held : List ℕ) (width room b : ℕ) (rest : List ℕ) → 0 < length held → IsHeld held
    → is_space b ≡ false → (room < columns (b ∷ [])) ⊎ (1024 ≤ length held)
    → rest_of_words width room held (b ∷ rest) ≡ (10 ∷ (drop 1 held ++ b ∷ [])) ++ rest_of_words width
    (width - (columns (drop 1 held) + columns (b ∷ []))) [] rest
breaks_by [] width room b rest some h e full = absurd (omega arith)
breaks_by (c ∷ word) width room b rest some h e full =
    let long : (room < columns (b ∷ [])) ⊎ (1023 ≤ length word) = elim full
    [ inl k ↦ inl k | inr k ↦ inr (omega arith) ] in
    rw h.0 (letter_breaks_word width room b word rest h.1 e long)

pub letter_breaks : (old new : Line) (b : ℕ) → 0 < length old.held.items → (old.room < columns (b ∷ []))
    ⊎ (1024 ≤ length old.held.items) → new.width ≡ old.width → new.kind ≡ old.kind
    → new.room ≡ old.width - (columns (drop 1 old.held.items) + columns (b ∷ [])) → new.held.items ≡ []
    → is_space b ≡ false → IsHeld old.held.items → WordsGoOn old new b (10 ∷ (drop 1 old.held.items ++ b ∷ []))
letter_breaks old new b some full width kind room held e h = record {
  width = width;
  kind = kind;
  held = rw held tt;
  rest = λ rest. rw (width, room, held) (breaks_by old.held.items old.width old.room b rest some h e full);
}

pub letter_breaks_line : {S : Type 0} (wrote : S → S → List ℕ → Type 0) (old mid new : Line) (a b : S) (byte : ℕ)
    → 0 < length old.held.items → IsFullFor old mid byte → BreaksLine wrote mid new a b byte → is_space byte ≡ false
    → TakesAmongWords wrote old new a b byte
letter_breaks_line {S} wrote old mid new a b byte some full broke e =
    let done : BreaksLine wrote old new a b byte = subst (λ (l : Line). BreaksLine wrote l new a b byte)
    full.same broke in
    record {
      text = _;
      is = letter_breaks old new byte some full.full done.width done.kind done.room done.held e;
      given = done.wrote_all;
    }

-- ---- steps behind a space that has gone out

pub first_letter_held : (old new : Line) (b : ℕ) → old.kind ≡ AfterSpace → new.kind ≡ AfterSpace
    → HoldsOn old new b → is_space b ≡ false → HoldsBy old.kind old.held.items → GoesOn old new b []
first_letter_held old new b before after on e h =
    let was : IsHeldAfterSpace old.held.items = rw before at h in record {
      width = on.width;
      held = rw (after, on.held) (
        plain_on old.held.items b was.0 e,
        omega (arith, on.short, length-append old.held.items (b ∷ [])),
      );
      rest = λ rest. rw (before, after, on.width, on.left, on.held) (first_held old.width old.room b old.held.items rest
          on.room);
    }

-- a word has gone out, and the line goes on among words
among_words : (old mid new : Line) (b : ℕ) (out more : List ℕ) → old.kind ≡ AfterSpace → mid.width ≡ old.width
    → mid.kind ≡ Words → mid.held.items ≡ [] → (IsHeldAfterSpace old.held.items → (rest : List ℕ)
    → rest_after_space old.width old.room old.held.items (b ∷ rest)
    ≡ out ++ rest_of_words old.width mid.room [] (b ∷ rest))
    → (IsHeld mid.held.items → WordsGoOn mid new b more) → HoldsBy old.kind old.held.items
    → GoesOn old new b (out ++ more)
among_words old mid new b out more before width kind none on step h =
    let was : IsHeldAfterSpace old.held.items = rw before at h in
    let then : WordsGoOn mid new b more = step (rw none tt) in record {
      width = then.width ∙ width;
      held = rw (then.kind, kind) then.held;
      rest = λ rest.
          rw (before, then.kind, kind) (on was rest ∙ ap (λ l. out ++ l) (rw (width, none) at (then.rest rest))
          ∙ sym (append_assoc out more (rest_of_words new.width new.room new.held.items rest)));
    }

pub before_a_space : (old : Line) → IsHeldAfterSpace old.held.items → (rest : List ℕ)
    → rest_after_space old.width old.room old.held.items (32 ∷ rest)
    ≡ old.held.items ++ rest_of_words old.width old.room [] (32 ∷ rest)
before_a_space old h rest = first_before_a_space old.width old.room old.held.items rest h

pub before_a_letter : (old : Line) (b : ℕ) → is_space b ≡ false
    → (old.room < columns (b ∷ [])) ⊎ (1024 ≤ length old.held.items)
    → IsHeldAfterSpace old.held.items → (rest : List ℕ)
    → rest_after_space old.width old.room old.held.items (b ∷ rest) ≡ ((10 ∷ []) ++ old.held.items)
    ++ rest_of_words old.width (old.width - columns old.held.items) [] (b ∷ rest)
before_a_letter old b e full h rest = first_breaks old.width old.room b old.held.items rest h.0 e full

-- what went out first, and then what goes out at a byte among words
pub after_word_goes : {S : Type 0} (wrote : S → S → List ℕ → Type 0)
    → ((a b c : S) (s t : List ℕ) → wrote a b s → wrote b c t → wrote a c (s ++ t))
    → (old mid new : Line) (a b c : S) (byte : ℕ) (out : List ℕ) → old.kind ≡ AfterSpace → mid.width ≡ old.width
    → mid.kind ≡ Words → mid.held.items ≡ [] → (IsHeldAfterSpace old.held.items → (rest : List ℕ)
    → rest_after_space old.width old.room old.held.items (byte ∷ rest)
    ≡ out ++ rest_of_words old.width mid.room [] (byte ∷ rest))
    → wrote a b out → TakesAmongWords wrote mid new b c byte → TakesInLine wrote old new a c byte
after_word_goes {S} wrote twice old mid new a b c byte out before width kind none on first step = record {
  text = out ++ step.text;
  is = among_words old mid new byte out step.text before width kind none on step.is;
  given = twice a b c out step.text first step.given;
}

pub no_bytes : (s : List ℕ) → (length s == 0) ≡ true → s ≡ []
no_bytes [] h = refl
no_bytes (b ∷ s) h = grind (arith, nat_tests)

pub some_bytes : (s : List ℕ) → (length s == 0) ≡ false → 0 < length s
some_bytes s h = grind (arith, nat_tests)

-- ---- lines

join_first : (s t : List ℕ) (lines : List (List ℕ)) → join_with_byte 10 ((s ++ t) ∷ lines) ≡ s
    ++ join_with_byte 10 (t ∷ lines)
join_first s t [] = refl
join_first s t (line ∷ lines) = append_assoc s t (10 ∷ join_with_byte 10 (line ∷ lines))

-- at its end a line gives out what is held back
at_the_end : (kind : LineKind) (width room : ℕ) (held : List ℕ) → HoldsBy kind held
    → rest_by kind width room held [] ≡ held
unfolding further_words
at_the_end Empty width room held h = sym h
at_the_end Row width room held h = sym h
at_the_end Words width room [] h = refl
at_the_end Words width room (b ∷ word) h =
    let words : slice_split is_space (word ++ []) ≡ word ∷ [] = rw (append-nil word) (no_space_splits word h.1) in
    rw h.0 (ap (further_words width (room + columns (32 ∷ word) - 0)) words
    ∙ word_that_fits width (room + columns (32 ∷ word) - 0) room word [] (omega (arith, columns_space word)) h.2
    (omega (arith, columns_space word))
    ∙ append-nil (32 ∷ word))
at_the_end AfterSpace width room held h =
    let words : slice_split is_space (held ++ []) ≡ held ∷ [] = rw (append-nil held) (no_space_splits held h.0) in
    ap (words_after_space width (room + columns held)) words
    ∙ first_that_fits width (room + columns held) room held [] (omega arith) h.1 (omega arith)
    ∙ append-nil held

pub open_line : (shown : List ℕ → List ℕ) (line : Line) (text out : List ℕ)
    → ((rest : List ℕ) → shown (text ++ rest) ≡ out ++ rest_of_text line rest) → HoldsBy line.kind line.held.items
    → IsOpen shown line text out
open_line shown line text out later held = record {
  whole = ap shown (sym (append-nil text)) ∙ later [] ∙ ap (λ l. out ++ l)
      (at_the_end line.kind line.width line.room line.held.items held);
  later = later;
  held = held;
}

-- bytes go out at a byte of a text that is open
goes_on : (shown : List ℕ → List ℕ) (old new : Line) (text out more : List ℕ) (b : ℕ) → IsOpen shown old text out
    → HoldsBy new.kind new.held.items → ((rest : List ℕ) → rest_of_text old (b ∷ rest) ≡ more
    ++ rest_of_text new rest) → IsOpen shown new (text ++ b ∷ []) (out ++ more)
goes_on shown old new text out more b is_open held on =
    open_line shown new (text ++ b ∷ []) (out ++ more) (λ rest.
    ap shown (append_assoc text (b ∷ []) rest)
    ∙ is_open.later (b ∷ rest)
    ∙ ap (λ l. out ++ l) (on rest)
    ∙ sym (append_assoc out more (rest_of_text new rest))) held

-- a line of which nothing has come
at_the_front : (line : Line) (rest : List ℕ) → line.kind ≡ Empty → rest_of_text line rest ≡ wrapped line.width rest
unfolding wrapped
at_the_front line rest e = let p = parts is_new_line rest in rw (e, p.are) refl

pub line_at_the_front : (line : Line) → line.kind ≡ Empty → line.held.items ≡ []
    → IsOpen (wrapped line.width) line [] []
line_at_the_front line kind none =
    open_line (wrapped line.width) line [] [] (λ rest. sym (at_the_front line rest kind)) (rw kind none)

holds_none : (kind : LineKind) (held : List ℕ) → held ≡ [] → HoldsBy kind held
holds_none Empty held e = e
holds_none Row held e = e
holds_none Words held e = rw e tt
holds_none AfterSpace held e = rw e (tt, omega arith)

-- a line that holds nothing back goes on
pub line_goes_by_itself : (line : Line) → line.held.items ≡ [] → IsOpen (rest_of_text line) line [] []
line_goes_by_itself line none =
    open_line (rest_of_text line) line [] [] (λ rest. refl) (holds_none line.kind line.held.items none)

at_a_new_line : (line : Line) (rest : List ℕ) → HoldsBy line.kind line.held.items
    → rest_of_text line (10 ∷ rest) ≡ (line.held.items ++ 10 ∷ []) ++ wrapped line.width rest
unfolding wrapped
at_a_new_line line rest h =
    let p = parts is_new_line rest in
    rw p.are (ap (λ l. l ++ 10 ∷ join_with_byte 10 (map (wrapped_line line.width) (p.first ∷ p.more)))
    (at_the_end line.kind line.width line.room line.held.items h)
    ∙ sym (append_assoc line.held.items (10 ∷ [])
    (join_with_byte 10 (map (wrapped_line line.width) (p.first ∷ p.more)))))

pub line_ends : {S : Type 0} (wrote : S → S → List ℕ → Type 0) (old new : Line) (a b : S)
    → EndsLine wrote old new a b → Takes wrote old new a b (10 ∷ [])
line_ends {S} wrote old new a b h = record {
  text = old.held.items ++ 10 ∷ [];
  is = λ shown text out is_open. goes_on shown old new text out (old.held.items ++ 10 ∷ []) 10 is_open
      (rw h.kind h.held) (λ rest.
      at_a_new_line old rest is_open.held ∙ ap (λ l. (old.held.items ++ 10 ∷ []) ++ l)
      (ap (λ w. wrapped w rest) (sym h.width) ∙ sym (at_the_front new rest h.kind)));
  given = h.wrote_all;
}

in_the_line : (old new : Line) (b : ℕ) (more rest : List ℕ) → is_new_line b ≡ false → GoesOn old new b more
    → rest_of_text old (b ∷ rest) ≡ more ++ rest_of_text new rest
in_the_line old new b more rest e h =
    let p = parts is_new_line rest in
    rw (e, p.are) (ap (λ l. join_with_byte 10 (l ∷ map (wrapped_line old.width) p.more)) (h.rest p.first)
    ∙ join_first more (rest_of_line new p.first) (map (wrapped_line old.width) p.more)
    ∙ ap (λ w. more ++ join_with_byte 10 (rest_of_line new p.first ∷ map (wrapped_line w) p.more)) (sym h.width))

pub line_goes_on : {S : Type 0} (wrote : S → S → List ℕ → Type 0) (old new : Line) (a b : S) (byte : ℕ)
    → is_new_line byte ≡ false → TakesInLine wrote old new a b byte → Takes wrote old new a b (byte ∷ [])
line_goes_on {S} wrote old new a b byte e h = record {
  text = h.text;
  is = λ shown text out is_open. let k = h.is is_open.held in goes_on shown old new text out h.text byte is_open
      k.held (λ rest. in_the_line old new byte h.text rest e k);
  given = h.given;
}

-- ---- one byte after another

pub takes_nothing : {S : Type 0} (wrote : S → S → List ℕ → Type 0) → ((a : S) → wrote a a [])
    → (line : Line) (a : S) → Takes wrote line line a a []
takes_nothing {S} wrote nothing line a =
    record { text = []; is = λ shown text out is_open. rw (append-nil text, append-nil out) is_open; given = nothing a }

pub takes_twice : {S : Type 0} (wrote : S → S → List ℕ → Type 0)
    → ((a b c : S) (s t : List ℕ) → wrote a b s → wrote b c t → wrote a c (s ++ t))
    → (x y z : Line) (a b c : S) (s t : List ℕ) → Takes wrote x y a b s → Takes wrote y z b c t
    → Takes wrote x z a c (s ++ t)
takes_twice {S} wrote twice x y z a b c s t h k = record {
  text = h.text ++ k.text;
  is = λ shown text out is_open. rw (← append_assoc text s t, ← append_assoc out h.text k.text)
      (k.is shown (text ++ s) (out ++ h.text) (h.is shown text out is_open));
  given = twice a b c h.text k.text h.given k.given;
}
