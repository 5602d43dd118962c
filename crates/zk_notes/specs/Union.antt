-- The union of lists of addresses, which lie one after another in a text.
use Rattle.std.specs.Prelude.{ℕ, ◌==◌, ◌&&◌, Bool, List, [], ◌∷◌, ◌++◌, length, not, is_none, Option, Some, None}
use Rattle.std.specs.Prelude.{codes, decimal, if◌then◌else◌}
use Rattle.std.specs.List.{filter_map, starts_with, Contains}
use Rattle.std.specs.List.Sorted.{IsStrictlyIncreasing}
use Rattle.std.specs.Str.{bytes_eq, trim}
use Rattle.zk_mem.specs.Checksum.{file_sum}
use Rattle.zk_mem.specs.Header.{header_of}
use Rattle.zk_mem.specs.Map.{MemoryMap}
use Rattle.zk_term.specs.Numbers.{word_digits}
use Rattle.zk_inspect.specs.HeaderLines.{serial_shown}
use Rattle.zk_notes.specs.Addresses.{address_of}

-- the address that a line has alone
abbrev pub address_on : List ℕ → Option ℕ
address_on line = address_of (trim line)

-- a line has more than spaces, and no address
abbrev pub is_no_address : List ℕ → Bool
is_no_address line = not (length (trim line) == 0) && is_none (address_on line)

abbrev pub is_of_story : List ℕ → Bool
is_of_story line = starts_with ◌==◌ line (codes "story ")

-- the line that a list begins with: that of the story whose addresses it has
abbrev pub story_of : List (List ℕ) → Option (List ℕ)
story_of [] = None
story_of (l ∷ ls) = if is_of_story l then Some l else None

-- a line is neither an address nor that of the story
abbrev pub is_foreign : List ℕ → List ℕ → Bool
is_foreign story line = is_no_address line && not (bytes_eq line story)

-- the line of a story in its first state: its serial number, the sum of its bytes and the length of its file
unfoldable pub story_line : MemoryMap → List ℕ
story_line m = codes "story " ++ serial_shown (header_of m.file).serial ++ codes " " ++ word_digits (file_sum m.file)
    ++ codes " " ++ decimal (length m.file)

-- addresses ascend, are those of lines, and are all of these
pub record IsUnion (addresses : List ℕ) (ls : List (List ℕ)) : Type 0 where
  pub ascend : IsStrictlyIncreasing addresses
  pub listed : (a : ℕ) → Contains addresses a → Contains (filter_map address_on ls) a
  pub whole : (a : ℕ) → Contains (filter_map address_on ls) a → Contains addresses a
