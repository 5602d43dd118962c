-- What a line of input leaves in a text buffer, and what its words leave in a parse buffer (Standard, section 15,
-- `sread`, `aread` and `tokenise`).
use Rattle.std.specs.Prelude.{ℕ, ◌+◌, ◌-◌, Bool, false, ◌&&◌, List, [], length, take, map, Result, Ok, nat_lt, nat_le}
use Rattle.std.specs.Prelude.{◌==◌, if◌then◌else◌}
use Rattle.zk_mem.specs.declared.fault.Fault.{Fault}
use Rattle.zk_mem.specs.Header.{header_of}
use Rattle.zk_mem.specs.Map.{MemoryMap, byte_at, byte_put}
use Rattle.zk_mem.specs.Results.{◌>>=◌}
use Rattle.zk_tables.specs.Runs.{bytes_put}
use Rattle.zk_text.specs.Extra.{own_characters, lower_code}
use Rattle.zk_tables.specs.Dictionaries.{dictionary_at}
use Rattle.zk_tables.specs.Parsing.{tokenised}

-- the letters of a line that there is room for, in lower case
abbrev pub taken_letters : MemoryMap → ℕ → List ℕ → List ℕ
taken_letters m room line = map (lower_code (own_characters m)) (take room line)

-- letters are stored from an address on, and a zero after them
abbrev pub ended_by_zero : MemoryMap → ℕ → List ℕ → Result MemoryMap Fault
ended_by_zero m a letters = bytes_put m a letters >>= λ n. byte_put n (a + length letters) 0

-- up to version 4 the letters of a line begin at byte 1 and a zero ends them; byte 0 says how many there may be, and
-- one more
unfoldable pub early_line_put : MemoryMap → ℕ → List ℕ → Result MemoryMap Fault
early_line_put m text line = byte_at m text >>= λ size. ended_by_zero m (text + 1) (taken_letters m (size - 1) line)

-- letters are stored after those that are there, and then in byte 1 how many they are
abbrev pub counted_letters : MemoryMap → ℕ → ℕ → List ℕ → Result MemoryMap Fault
counted_letters m text count letters =
    bytes_put m (text + 2 + count) letters >>= λ n. byte_put n (text + 1) (count + length letters)

-- a text buffer is filled by the letters that it has
abbrev pub is_filled : ℕ → ℕ → Bool
is_filled size count = nat_lt 0 count && nat_le size count

-- from version 5 on byte 0 says how many letters there may be, and byte 1 how many there are; the letters begin at
-- byte 2. A line goes on after those; where they fill the buffer it stays as it is.
unfoldable pub later_line_put : MemoryMap → ℕ → List ℕ → Result MemoryMap Fault
later_line_put m text line = do
  size ← byte_at m text
  count ← byte_at m (text + 1)
  if is_filled size count then Ok m else counted_letters m text count (taken_letters m (size - count) line)

-- the text in a text buffer is divided into words by the dictionary at an address
unfoldable pub divided_into_words : MemoryMap → ℕ → ℕ → ℕ → Bool → Result MemoryMap Fault
divided_into_words m text parse dictionary leaves_unknown =
    dictionary_at m dictionary >>= λ d. tokenised m text parse d leaves_unknown

-- the address of the story's own dictionary (section 13.1)
abbrev pub own_dictionary : MemoryMap → ℕ
own_dictionary m = (header_of m.file).dictionary

-- a line is stored, then it is divided into words; from version 5 on not where the parse buffer's address is 0
unfoldable pub line_put : MemoryMap → ℕ → ℕ → List ℕ → Result MemoryMap Fault
line_put m text parse line =
    if nat_lt m.version 5
    then (early_line_put m text line >>= λ n. divided_into_words n text parse (own_dictionary n) false)
    else (later_line_put m text line >>= λ n. if parse == 0 then Ok n else divided_into_words n text parse
    (own_dictionary n) false)

-- ---- what is kept of a line

-- the letters of a line that there is room for up to version 4
abbrev pub early_kept : ℕ → List ℕ → List ℕ
early_kept size line = take (size - 1) line

-- and from version 5 on, after those that are there
abbrev pub later_kept : ℕ → ℕ → List ℕ → List ℕ
later_kept size count line = if is_filled size count then [] else take (size - count) line

-- the letters of a line that a text buffer takes, as they were typed
unfoldable pub kept_of : MemoryMap → ℕ → List ℕ → Result (List ℕ) Fault
kept_of m text line =
    if nat_lt m.version 5
    then (byte_at m text >>= λ size. Ok (early_kept size line))
    else (byte_at m text >>= λ size. byte_at m (text + 1) >>= λ count. Ok (later_kept size count line))
