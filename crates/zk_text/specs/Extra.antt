-- The extra characters of ZSCII (Standard, section 3.8.5).
use Rattle.std.specs.Prelude.{Bool, ◌&&◌, ◌||◌, ℕ, zero, suc, ◌+◌, ◌-◌, ◌*◌, List, [], ◌∷◌, Option, Some, None, Result}
use Rattle.std.specs.Prelude.{Ok, Err, if◌then◌else◌, ◌==◌, nat_le, nat_lt, slice_get, take, option_and_then, unwrap_or}
use Rattle.zk_mem.specs.Header.{header_of, word_in}
use Rattle.zk_mem.specs.Map.{MemoryMap, readable_end, byte_at, word_at}
use Rattle.zk_mem.specs.declared.fault.Fault.{Fault}
use Rattle.zk_text.specs.Standard.{standard_characters, ascii_capitals, capitals}

-- the words of a story's own Unicode table, where it has one
abbrev pub ExtraTable : Type 0
ExtraTable = Option (List ℕ)

-- the n words from an address on
unfoldable pub words_from : List ℕ → ℕ → ℕ → List ℕ
words_from bytes a zero = []
words_from bytes a (suc n) = word_in bytes a ∷ words_from bytes (a + 2) n

-- the third word of a header extension, where it has three and the third is not 0
abbrev pub third_word : Result ℕ Fault → Result ℕ Fault → Option ℕ
third_word (Ok words) (Ok third) =
    if nat_lt words 3 then None else if third == 0 then None else Some third
third_word (Ok words) (Err f) = None
third_word (Err f) third = None

-- the address of the Unicode table that a header extension names (section 11.1.7)
abbrev pub table_named : MemoryMap → ℕ → Option ℕ
table_named m extension = third_word (word_at m extension) (word_at m (extension + 6))

-- the address of the story's Unicode table, if it has a header extension that names one (section
-- 3.8.5.2)
unfoldable pub unicode_table : MemoryMap → Option ℕ
unicode_table m =
    if (header_of m.file).extension == 0 then None else table_named m (header_of m.file).extension

-- the n words after a count, where they all lie in readable data
abbrev pub stated_words : MemoryMap → ℕ → Result ℕ Fault → ExtraTable
stated_words m at (Err f) = None
stated_words m at (Ok n) =
    if nat_le (at + 1 + 2 * n) (readable_end m) then Some (words_from m.bytes (at + 1) n) else None

-- the words of the Unicode table at an address: their count in a byte, then the words
unfoldable pub words_at_table : MemoryMap → ℕ → ExtraTable
words_at_table m at = stated_words m at (byte_at m at)

-- the words of a table, where the header extension names one
abbrev pub words_of_table : MemoryMap → Option ℕ → ExtraTable
words_of_table m None = None
words_of_table m (Some at) = words_at_table m at

-- the story's own extra characters, as its memory stands
unfoldable pub own_characters : MemoryMap → ExtraTable
own_characters m = words_of_table m (unicode_table m)

-- the extra characters in force, from code 155 on: an own table replaces the whole of the
-- Standard's, and its words past the 97th are not used (sections 3.8.5.2 and 3.8.5.3)
abbrev pub characters : ExtraTable → List ℕ
characters None = standard_characters
characters (Some words) = take 97 words

-- 32 to 126, which ZSCII has from ASCII (section 3.8.3)
abbrev pub is_ascii : ℕ → Bool
is_ascii code = nat_le 32 code && nat_lt code 127

-- what may be typed as a character: these and the extra characters (section 3.8)
abbrev pub is_input_code : ℕ → Bool
is_input_code code = is_ascii code || nat_le 155 code && nat_lt code 252

-- the character of a ZSCII code (sections 3.8.3 and 3.8.5)
unfoldable pub character : ExtraTable → ℕ → Option ℕ
character t code =
    if is_ascii code then Some code
    else if nat_lt code 155 then None
    else slice_get (characters t) (code - 155)

-- the least code of a character among those from a code on
unfoldable pub code_from : List ℕ → ℕ → ℕ → Option ℕ
code_from [] code c = None
code_from (x ∷ xs) code c = if x == c then Some code else code_from xs (code + 1) c

-- the least ZSCII code of a character
unfoldable pub code_of : ExtraTable → ℕ → Option ℕ
code_of t c = if is_ascii c then Some c else code_from (characters t) 155 c

-- the small letter of a capital, by pairs of both
unfoldable pub small_letter : List (ℕ × ℕ) → ℕ → Option ℕ
small_letter [] c = None
small_letter (p ∷ ps) c = if p.0 == c then Some p.1 else small_letter ps c

-- the code of the small letter of a code's character, where that is a capital; under an own table
-- A to Z alone are capitals, and their codes are their characters
abbrev pub small_code : ExtraTable → ℕ → Option ℕ
small_code None code =
    option_and_then (code_of None) (option_and_then (small_letter capitals) (character None code))
small_code (Some words) code = small_letter ascii_capitals code

-- a code in lower case: one whose character is no capital stays
unfoldable pub lower_code : ExtraTable → ℕ → ℕ
lower_code t code = unwrap_or (small_code t code) code
