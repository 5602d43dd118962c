-- Laws of text that is wrapped at words.
use Rattle.std.specs.Prelude.{◌≡◌, ◌⊎◌, ◌≤◌, ◌-◌, ◌*◌, ℕ, true, false, List, [], ◌∷◌, ◌++◌, length, encode_utf8_all}
use Rattle.std.specs.List.{AllByRecursion, before_first, slice_split}
use Rattle.zk_term.specs.Lines.{IsPlain, is_new_line}
use Rattle.zk_term.specs.Wrapping.{columns, fits, is_row, is_space, wrapped}

-- byte by byte, a text is another one, but for spaces that have become new lines
abbrev pub IsBrokenAtSpaces : List ℕ → List ℕ → Type 0
IsBrokenAtSpaces [] [] = Unit {0}
IsBrokenAtSpaces [] (c ∷ new) = ⊥
IsBrokenAtSpaces (b ∷ old) [] = ⊥
IsBrokenAtSpaces (b ∷ old) (c ∷ new) = ((c ≡ b) ⊎ ((b ≡ 32) × (c ≡ 10))) × IsBrokenAtSpaces old new

-- no byte is lost or added
abbrev pub OnlySpacesBecomeNewLines : Type 0
OnlySpacesBecomeNewLines = (width : ℕ) (text : List ℕ) → IsBrokenAtSpaces text (wrapped width text)

-- a line is not longer than the width, or a single word
abbrev pub IsWithin : ℕ → List ℕ → Type 0
IsWithin width line = (columns line ≤ width) ⊎ AllByRecursion (λ b. is_space b ≡ false) line

-- all lines that come of a line that is no row
abbrev pub LinesAreWithin : Type 0
LinesAreWithin =
    (width : ℕ) (line : List ℕ) → IsPlain line → is_row line ≡ false
    → AllByRecursion (IsWithin width) (slice_split is_new_line (wrapped width line))

-- the word with which a line begins
abbrev pub first_word : List ℕ → List ℕ
first_word line = before_first is_space line

-- no line has room for the word with which the next one begins
abbrev pub HaveNoRoom : ℕ → List (List ℕ) → Type 0
HaveNoRoom width [] = Unit {0}
HaveNoRoom width (line ∷ []) = Unit {0}
HaveNoRoom width (line ∷ next ∷ lines) =
    (fits (width - columns line) (first_word next) ≡ false) × HaveNoRoom width (next ∷ lines)

-- a line ends only where the next word does not fit
abbrev pub LinesAreFull : Type 0
LinesAreFull =
    (width : ℕ) (line : List ℕ) → IsPlain line → is_row line ≡ false
    → HaveNoRoom width (slice_split is_new_line (wrapped width line))

-- a line that begins with a bar comes out as it is
abbrev pub RowsStay : Type 0
RowsStay =
    (width : ℕ) (line : List ℕ) → IsPlain line → is_row line ≡ true → wrapped width line ≡ line

-- each line begins anew
abbrev pub LinesAreWrappedOneByOne : Type 0
LinesAreWrappedOneByOne =
    (width : ℕ) (line text : List ℕ) → IsPlain line
    → wrapped width (line ++ 10 ∷ text) ≡ wrapped width line ++ 10 ∷ wrapped width text

-- characters take a column each, and four bytes at most
abbrev pub CharactersTakeColumns : Type 0
CharactersTakeColumns =
    (characters : List ℕ) → (columns (encode_utf8_all characters) ≡ length characters)
    × (length (encode_utf8_all characters) ≤ 4 * length characters)
