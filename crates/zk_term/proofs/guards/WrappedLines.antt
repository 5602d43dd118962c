-- What becomes of the lines of a text that is wrapped.
use Rattle.std.proofs.Common.{◌≡◌, ◌∙◌, ◌<◌, ◌≤◌, ◌⊎◌, inl, inr, ℕ, suc, ◌+◌, ◌-◌, ◌/◌, ◌%◌, ◌&&◌, Bool, true, false}
use Rattle.std.proofs.Common.{cond}
use Rattle.std.proofs.Common.{List, [], ◌∷◌, ◌++◌, length, map, subst, take, append_assoc, append-nil, refl, sym, ap}
use Rattle.std.proofs.Common.{arith, length-append, nat_lt}
use Rattle.std.proofs.lemmas.Bool.Decides.{nat_tests}
use Rattle.std.proofs.lemmas.List.Splits.{join_with_byte-slice_split}
use Rattle.std.proofs.lemmas.Str.{length-encode, len_utf8_bounds}
use Rattle.std.specs.Char.{encode_utf8}
use Rattle.std.specs.List.{AllByRecursion, before_first, join_with_byte, position_or_len, onto_first, slice_split}
use Rattle.std.specs.Prelude.{encode_utf8_all}
use Rattle.zk_term.specs.Lines.{IsPlain, is_new_line}
use Rattle.zk_term.specs.OpenLines.{HasNoSpace}
use Rattle.zk_term.specs.Wrapping.{all_words, begins_character, columns, fits, further_words, is_row, is_space, wrapped}
use Rattle.zk_term.specs.Wrapping.{wrapped_line}
use Rattle.zk_term.specs.guards.WrappingLaws.{CharactersTakeColumns, HaveNoRoom, IsBrokenAtSpaces, IsWithin}
use Rattle.zk_term.specs.guards.WrappingLaws.{LinesAreFull, LinesAreWithin, LinesAreWrappedOneByOne}
use Rattle.zk_term.specs.guards.WrappingLaws.{OnlySpacesBecomeNewLines, RowsStay, first_word}
use Rattle.zk_term.proofs.Wraps.{columns_both, columns_space, parts}

fits_by : (n room : ℕ) (short x : Bool) → nat_lt n room ≡ x → x && short ≡ true → n < room
fits_by n room short true e h = grind (arith, nat_tests)
fits_by n room short false e h = absurd cc

fits_columns : (room : ℕ) (word : List ℕ) → fits room word ≡ true → columns word < room
fits_columns room word h = fits_by (columns word) room (nat_lt (length word) 1024) (nat_lt (columns word) room) refl h

-- ---- only spaces become new lines

stays : (s : List ℕ) → IsBrokenAtSpaces s s
stays [] = tt
stays (b ∷ s) = (inl refl, stays s)

both : (s s' t t' : List ℕ) → IsBrokenAtSpaces s s' → IsBrokenAtSpaces t t' → IsBrokenAtSpaces (s ++ t) (s' ++ t')
both [] [] t t' h k = k
both [] (c ∷ s') t t' h k = absurd h
both (b ∷ s) [] t t' h k = absurd h
both (b ∷ s) (c ∷ s') t t' h k = (h.0, both s s' t t' h.1 k)

-- the words after one, with a space before each
after_word : List (List ℕ) → List ℕ
after_word [] = []
after_word (word ∷ words) = 32 ∷ join_with_byte 32 (word ∷ words)

join_words : (word : List ℕ) (words : List (List ℕ)) → join_with_byte 32 (word ∷ words) ≡ word ++ after_word words
unfolding after_word
join_words word [] = sym (append-nil word)
join_words word (next ∷ words) = refl

further_by : (x : Bool) (width room : ℕ) (word : List ℕ) (words : List (List ℕ))
    → ((r : ℕ) → IsBrokenAtSpaces (after_word words) (further_words width r words))
    → IsBrokenAtSpaces (32 ∷ (word ++ after_word words))
    (cond x (32 ∷ (word ++ further_words width (room - (1 + columns word)) words))
    (10 ∷ (word ++ further_words width (width - columns word) words)))
further_by true width room word words h = (inl refl, both word word _ _ (stays word) (h (room - (1 + columns word))))
further_by false width room word words h =
    (inr (refl, refl), both word word _ _ (stays word) (h (width - columns word)))

further_stay : (width room : ℕ) (words : List (List ℕ)) → IsBrokenAtSpaces (after_word words)
    (further_words width room words)
unfolding after_word further_words
further_stay width room [] = tt
further_stay width room (word ∷ words) =
    rw (join_words word words) (further_by (fits room word) width room word words (λ r. further_stay width r words))

line_by : (x : Bool) (width : ℕ) (line : List ℕ) → IsBrokenAtSpaces line
    (cond x line (all_words width width (slice_split is_space line)))
line_by true width line = stays line
line_by false width line =
    let p = parts is_space line in
    let whole : line ≡ p.first ++ after_word p.more = sym (join_with_byte-slice_split 32 line)
    ∙ ap (join_with_byte 32) p.are ∙ join_words p.first p.more in
    let broken : IsBrokenAtSpaces (p.first ++ after_word p.more) (all_words width width (p.first ∷ p.more)) = both
    p.first p.first _ _ (stays p.first) (further_stay width (width - columns p.first) p.more) in
    rw p.are (rw (← whole) at broken)

lines_stay : (width : ℕ) (lines : List (List ℕ)) → IsBrokenAtSpaces (join_with_byte 10 lines)
    (join_with_byte 10 (map (wrapped_line width) lines))
lines_stay width [] = tt
lines_stay width (line ∷ []) = line_by (is_row line) width line
lines_stay width (line ∷ next ∷ lines) =
    both line (wrapped_line width line) _ _ (line_by (is_row line) width line)
    (inl refl, lines_stay width (next ∷ lines))

pub only_spaces_become_new_lines : OnlySpacesBecomeNewLines
unfolding wrapped
only_spaces_become_new_lines width text =
    rw (join_with_byte-slice_split 10 text) at (lines_stay width (slice_split is_new_line text))

-- ---- one line

no_new_line : (line : List ℕ) → IsPlain line → slice_split is_new_line line ≡ line ∷ []
no_new_line [] h = refl
no_new_line (b ∷ line) h = rw (no_new_line line h.1, h.0) refl

line_ends : (line rest : List ℕ) → IsPlain line → slice_split is_new_line (line ++ 10 ∷ rest) ≡ line
    ∷ slice_split is_new_line rest
line_ends [] rest h = refl
line_ends (b ∷ line) rest h = rw (line_ends line rest h.1, h.0) refl

one_line : (width : ℕ) (line : List ℕ) → IsPlain line → wrapped width line ≡ wrapped_line width line
unfolding wrapped
one_line width line h = ap (λ lines. join_with_byte 10 (map (wrapped_line width) lines)) (no_new_line line h)

pub rows_stay : RowsStay
rows_stay width line plain row = one_line width line plain ∙ rw row refl

pub lines_are_wrapped_one_by_one : LinesAreWrappedOneByOne
unfolding wrapped
lines_are_wrapped_one_by_one width line text plain =
    let p = parts is_new_line text in
    ap (λ lines. join_with_byte 10 (map (wrapped_line width) lines)) (line_ends line text plain)
    ∙ ap (λ lines. join_with_byte 10 (wrapped_line width line ∷ map (wrapped_line width) lines)) p.are
    ∙ ap (λ lines. wrapped_line width line ++ 10 ∷ join_with_byte 10 (map (wrapped_line width) lines)) (sym p.are)
    ∙ ap (λ first. first ++ 10 ∷ wrapped width text) (sym (one_line width line plain))

-- ---- the columns of lines

-- a word of a line has no space, and no new line
abbrev pub IsWord : List ℕ → Type 0
IsWord word = HasNoSpace word × IsPlain word

words_by : (x : Bool) (b : ℕ) (words : List (List ℕ)) → is_space b ≡ x → is_new_line b ≡ false
    → AllByRecursion IsWord words → AllByRecursion IsWord (cond x ([] ∷ words) (onto_first b words))
words_by true b words e plain h = ((tt, tt), h)
words_by false b [] e plain h = (((e, tt), (plain, tt)), tt)
words_by false b (word ∷ words) e plain h = (((e, h.0.0), (plain, h.0.1)), h.1)

are_words : (line : List ℕ) → IsPlain line → AllByRecursion IsWord (slice_split is_space line)
are_words [] h = ((tt, tt), tt)
are_words (b ∷ line) h = words_by (is_space b) b (slice_split is_space line) refl h.0 (are_words line h.1)

plain_both : (s t : List ℕ) → IsPlain s → IsPlain t → IsPlain (s ++ t)
plain_both [] t h k = k
plain_both (b ∷ s) t h k = (h.0, plain_both s t h.1 k)

-- a line that has come so far, before the rest of its words
abbrev pub AreWithin : ℕ → List ℕ → List ℕ → Type 0
AreWithin width line rest = AllByRecursion (IsWithin width) (slice_split is_new_line (line ++ rest))

within_by : (x : Bool) (width room : ℕ) (line word : List ℕ) (words : List (List ℕ)) → fits room word ≡ x
    → IsPlain line → IsWithin width line → room ≡ width - columns line → IsWord word
    → ((next : List ℕ) (r : ℕ) → IsPlain next → IsWithin width next → r ≡ width - columns next
    → AreWithin width next (further_words width r words))
    → AreWithin width line (cond x ((32 ∷ word) ++ further_words width (room - (1 + columns word)) words)
    ((10 ∷ word) ++ further_words width (width - columns word) words))
within_by true width room line word words test plain short e h more =
    let longer : columns (line ++ 32 ∷ word) ≡ columns line + (1 + columns word) = columns_both line (32 ∷ word)
    ∙ ap (λ n. columns line + n) (columns_space word) in
    let room_is : columns word < room = fits_columns room word test in
    rw (← append_assoc line (32 ∷ word) (further_words width (room - (1 + columns word)) words))
    (more (line ++ 32 ∷ word) (room - (1 + columns word)) (plain_both line (32 ∷ word) plain (refl, h.1))
    (inl (omega (arith, longer))) (omega (arith, longer)))
within_by false width room line word words test plain short e h more =
    rw (line_ends line (word ++ further_words width (width - columns word) words) plain)
    (short, more word (width - columns word) h.1 (inr h.0) refl)

within : (width room : ℕ) (line : List ℕ) (words : List (List ℕ)) → IsPlain line → IsWithin width line
    → room ≡ width - columns line → AllByRecursion IsWord words → AreWithin width line (further_words width room words)
unfolding further_words
within width room line [] plain short e h = rw (append-nil line, no_new_line line plain) (short, tt)
within width room line (word ∷ words) plain short e h =
    within_by (fits room word) width room line word words refl plain short e h.0
    (λ next r p s f. within width r next words p s f h.1)

pub lines_are_within : LinesAreWithin
lines_are_within width line plain other =
    let p = parts is_space line in
    let words : AllByRecursion IsWord (p.first ∷ p.more) = rw p.are at (are_words line plain) in
    rw (one_line width line plain, other, p.are) (within width (width - columns p.first) p.first p.more words.0.1
    (inr words.0.0) refl words.1)

-- ---- no line has room for more

take_one : (n b : ℕ) (s : List ℕ) → take (1 + n) (b ∷ s) ≡ b ∷ take n s
take_one n b s = let e : 1 + n ≡ suc n = omega arith in ap (λ k. take k (b ∷ s)) e

before_first_more : (b : ℕ) (s : List ℕ) → is_space b ≡ false → before_first is_space (b ∷ s) ≡ b
    ∷ before_first is_space s
before_first_more b s e = rw e (take_one (position_or_len is_space s) b s)

-- nothing, or a space and what comes after it
abbrev pub IsApart : List ℕ → Type 0
IsApart [] = Unit {0}
IsApart (b ∷ tail) = b ≡ 32

first_is : (word tail : List ℕ) → HasNoSpace word → IsApart tail → first_word (word ++ tail) ≡ word
first_is [] [] h k = refl
first_is [] (b ∷ tail) h k = rw k refl
first_is (b ∷ word) tail h k = before_first_more b (word ++ tail) h.0 ∙ ap (λ w. b ∷ w) (first_is word tail h.1 k)

-- the lines that come of a line that has come so far, before the rest of its words
record Full (width : ℕ) (line rest : List ℕ) : Type 0 where
  tail : List ℕ
  more : List (List ℕ)
  are : slice_split is_new_line (line ++ rest) ≡ (line ++ tail) ∷ more
  apart : IsApart tail
  full : HaveNoRoom width ((line ++ tail) ∷ more)

full_longer : (width : ℕ) (line word rest : List ℕ) → Full width (line ++ 32 ∷ word) rest
    → Full width line ((32 ∷ word) ++ rest)
full_longer width line word rest h = record {
  tail = (32 ∷ word) ++ h.tail;
  more = h.more;
  are = ap (slice_split is_new_line) (sym (append_assoc line (32 ∷ word) rest)) ∙ h.are
      ∙ ap (λ l. l ∷ h.more) (append_assoc line (32 ∷ word) h.tail);
  apart = refl;
  full = subst (λ (l : List ℕ). HaveNoRoom width (l ∷ h.more)) (append_assoc line (32 ∷ word) h.tail) h.full;
}

full_broken : (width : ℕ) (line word rest : List ℕ) → IsPlain line → HasNoSpace word
    → fits (width - columns line) word ≡ false → Full width word rest → Full width line ((10 ∷ word) ++ rest)
full_broken width line word rest plain whole test h = record {
  tail = [];
  more = (word ++ h.tail) ∷ h.more;
  are = line_ends line (word ++ rest) plain ∙ ap (λ ls. line ∷ ls) h.are ∙ ap (λ l. l ∷ (word ++ h.tail) ∷ h.more)
      (sym (append-nil line));
  apart = tt;
  full = rw (append-nil line, first_is word h.tail whole h.apart) (test, h.full);
}

full_by : (x : Bool) (width room : ℕ) (line word : List ℕ) (words : List (List ℕ)) → fits room word ≡ x
    → IsPlain line → room ≡ width - columns line → IsWord word
    → ((next : List ℕ) (r : ℕ) → IsPlain next → r ≡ width - columns next
    → Full width next (further_words width r words))
    → Full width line (cond x ((32 ∷ word) ++ further_words width (room - (1 + columns word)) words)
    ((10 ∷ word) ++ further_words width (width - columns word) words))
full_by true width room line word words test plain e h more =
    let longer : columns (line ++ 32 ∷ word) ≡ columns line + (1 + columns word) = columns_both line (32 ∷ word)
    ∙ ap (λ n. columns line + n) (columns_space word) in
    full_longer width line word (further_words width (room - (1 + columns word)) words)
    (more (line ++ 32 ∷ word) (room - (1 + columns word)) (plain_both line (32 ∷ word) plain (refl, h.1))
    (omega (arith, longer)))
full_by false width room line word words test plain e h more =
    full_broken width line word (further_words width (width - columns word) words) plain h.0 (rw e at test)
    (more word (width - columns word) h.1 refl)

full_lines : (width room : ℕ) (line : List ℕ) (words : List (List ℕ)) → IsPlain line → room ≡ width - columns line
    → AllByRecursion IsWord words → Full width line (further_words width room words)
unfolding further_words
full_lines width room line [] plain e h = record {
  tail = [];
  more = [];
  are = ap (slice_split is_new_line) (append-nil line) ∙ no_new_line line plain
      ∙ ap (λ l. l ∷ []) (sym (append-nil line));
  apart = tt;
  full = tt;
}
full_lines width room line (word ∷ words) plain e h =
    full_by (fits room word) width room line word words refl plain e h.0
    (λ next r p f. full_lines width r next words p f h.1)

pub lines_are_full : LinesAreFull
lines_are_full width line plain other =
    let p = parts is_space line in
    let words : AllByRecursion IsWord (p.first ∷ p.more) = rw p.are at (are_words line plain) in
    let k = full_lines width (width - columns p.first) p.first p.more words.0.1 refl words.1 in
    rw (one_line width line plain, other, p.are, k.are) k.full

-- ---- the columns of characters

leads : (b : ℕ) → (b < 128) ⊎ (193 < b) → begins_character b ≡ true
leads b (inl h) = let e : nat_lt b 128 ≡ true = grind (arith, nat_tests) in rw e refl
leads b (inr h) = let e : nat_lt b 128 ≡ false = grind (arith, nat_tests) in
    let f : nat_lt 193 b ≡ true = grind (arith, nat_tests) in rw (e, f) refl

goes_on : (n : ℕ) → begins_character (128 + n % 64) ≡ false
goes_on n = let e : nat_lt (128 + n % 64) 128 ≡ false = grind (arith, nat_tests) in
    let f : nat_lt 193 (128 + n % 64) ≡ false = grind (arith, nat_tests) in rw (e, f) refl

one_column : (c : ℕ) (x y z : Bool) → nat_lt c 128 ≡ x
    → columns (cond x (c ∷ []) (cond y ((192 + c / 64) ∷ (128 + c % 64) ∷ [])
    (cond z ((224 + c / 4096) ∷ (128 + (c / 64) % 64) ∷ (128 + c % 64) ∷ [])
    ((240 + c / 262144) ∷ (128 + (c / 4096) % 64) ∷ (128 + (c / 64) % 64) ∷ (128 + c % 64) ∷ [])))) ≡ 1
one_column c true y z e = let low : c < 128 = grind (arith, nat_tests) in rw (leads c (inl low)) refl
one_column c false true z e = let high : 128 ≤ c = grind (arith, nat_tests) in
    rw (leads (192 + c / 64) (inr (omega (arith, high))), goes_on c) refl
one_column c false false true e = rw (leads (224 + c / 4096) (inr (omega arith)), goes_on (c / 64), goes_on c) refl
one_column c false false false e =
    rw (leads (240 + c / 262144) (inr (omega arith)), goes_on (c / 4096), goes_on (c / 64), goes_on c) refl

column_of : (c : ℕ) → columns (encode_utf8 c) ≡ 1
unfolding encode_utf8
column_of c = one_column c (nat_lt c 128) (nat_lt c 2048) (nat_lt c 65536) refl

pub characters_take_columns : CharactersTakeColumns
characters_take_columns [] = (refl, omega arith)
characters_take_columns (c ∷ cs) =
    let h = characters_take_columns cs in (
      columns_both (encode_utf8 c) (encode_utf8_all cs) ∙ rw (column_of c, h.0) (omega arith),
      omega (arith, h.1, length-append (encode_utf8 c) (encode_utf8_all cs), length-encode c, len_utf8_bounds c),
    )
