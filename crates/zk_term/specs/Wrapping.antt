-- Text wrapped at words: where a word finds no room in its line, a new line takes the place of the space before it.
use Rattle.std.specs.Prelude.{ℕ, ◌+◌, ◌-◌, Bool, false, ◌||◌, ◌&&◌, List, [], ◌∷◌, ◌++◌, length, map, nat_eq, nat_lt}
use Rattle.std.specs.Prelude.{if◌then◌else◌}
use Rattle.std.specs.List.{count_by, join_with_byte, slice_split}
use Rattle.zk_term.specs.Lines.{is_new_line}

-- the byte of a space
abbrev pub is_space : ℕ → Bool
is_space b = nat_eq b 32

-- the line begins with a bar, as the rows of the upper window do
abbrev pub is_row : List ℕ → Bool
is_row [] = false
is_row (b ∷ line) = nat_eq b 124

-- Each byte of UTF-8 begins a character, but those from 128 to 191. 192 and 193 are no bytes of UTF-8 (RFC 3629,
-- section 3): 192 stands before the number of a style, which takes no column.
abbrev pub begins_character : ℕ → Bool
begins_character b = nat_lt b 128 || nat_lt 193 b

-- how many columns bytes take: one for each character
abbrev pub columns : List ℕ → ℕ
columns bytes = count_by begins_character bytes

-- A word and the space before it fit in so many columns. And it has no more than 1,023 bytes, which says nothing of
-- UTF-8: there a word that fits in 255 columns has 1,016 bytes at most.
abbrev pub fits : ℕ → List ℕ → Bool
fits room word = nat_lt (columns word) room && nat_lt (length word) 1024

-- the words of a line after the first, where so many columns are left in the line: a space stands before each that
-- fits, and a new line before each that does not
unfoldable pub further_words : ℕ → ℕ → List (List ℕ) → List ℕ
further_words width room [] = []
further_words width room (word ∷ words) =
    if fits room word
    then 32 ∷ word ++ further_words width (room - (1 + columns word)) words
    else 10 ∷ word ++ further_words width (width - columns word) words

-- the words of a line, where so many columns are left in it: the first one at once
abbrev pub all_words : ℕ → ℕ → List (List ℕ) → List ℕ
all_words width room [] = []
all_words width room (word ∷ words) = word ++ further_words width (room - columns word) words

-- behind a space that has gone out a word fits in so many columns, with no more than 1,024 bytes
abbrev pub fits_after_space : ℕ → List ℕ → Bool
fits_after_space room word = nat_lt (columns word) (1 + room) && nat_lt (length word) 1025

-- the words of a line behind a space that has gone out, where so many columns are left in it: a new line stands before
-- the first one if it does not fit, and the space stays where it is
abbrev pub words_after_space : ℕ → ℕ → List (List ℕ) → List ℕ
words_after_space width room [] = []
words_after_space width room (word ∷ words) =
    if fits_after_space room word
    then word ++ further_words width (room - columns word) words
    else 10 ∷ word ++ further_words width (width - columns word) words

-- a line: a row of the upper window as it is, and any other word by word
abbrev pub wrapped_line : ℕ → List ℕ → List ℕ
wrapped_line width line =
    if is_row line then line else all_words width width (slice_split is_space line)

-- a text, line by line
unfoldable pub wrapped : ℕ → List ℕ → List ℕ
wrapped width text = join_with_byte 10 (map (wrapped_line width) (slice_split is_new_line text))
