-- The alphabets of a story (Standard, sections 3.2 and 3.5).
use Rattle.std.specs.Prelude.{ℕ, ◌+◌, ◌-◌, Option, Some, None, if◌then◌else◌, ◌==◌, nat_le, slice_index}
use Rattle.zk_mem.specs.Header.{header_of}
use Rattle.zk_mem.specs.Map.{MemoryMap, readable_end}
use Rattle.zk_text.specs.declared.alphabet.Row.{Row}
use Rattle.zk_text.specs.declared.alphabet.Row.TheVariants.{A0, A1, A2}
use Rattle.zk_text.specs.Standard.{standard_letters}

-- where an alphabet begins among the 78 letters
abbrev pub row_start : Row → ℕ
row_start A0 = 0
row_start A1 = 26
row_start A2 = 52

-- where the story's own alphabets lie, if it has any and they lie in readable data (section 3.5.5)
unfoldable pub alphabet_table : MemoryMap → Option ℕ
alphabet_table m =
    if (header_of m.file).alphabet == 0 then None
    else if nat_le ((header_of m.file).alphabet + 78) (readable_end m)
    then Some (header_of m.file).alphabet
    else None

-- a code of the 78: of the story's own, as its memory stands, or of the Standard's (section 3.5.3)
abbrev pub letter_code : MemoryMap → Option ℕ → ℕ → ℕ
letter_code m None i = slice_index standard_letters i
letter_code m (Some table) i = slice_index m.bytes (table + i)

-- the letter of a Z-character from 6 to 31; 7 in A2 is a new line in every table (section 3.5.5.1)
unfoldable pub letter_by : MemoryMap → Option ℕ → Row → ℕ → ℕ
letter_by m table A2 z = if z == 7 then 13 else letter_code m table (row_start A2 + (z - 6))
letter_by m table row z = letter_code m table (row_start row + (z - 6))

-- the letter of a Z-character from 6 to 31, in the alphabets that are in force
abbrev pub letter_of : MemoryMap → Row → ℕ → ℕ
letter_of m = letter_by m (alphabet_table m)
