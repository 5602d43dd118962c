-- The memory map of a story (Standard, section 1.1), and how its data is read and written.
use Rattle.std.specs.Prelude.{◌≡◌, ℕ, ◌+◌, ◌/◌, ◌%◌, ◌<◌, ◌≤◌, List, ◌++◌, length, take, drop, slice_index, slice_get}
use Rattle.std.specs.Prelude.{slice_set, Option, Some, None, Result, Ok, Err, nat_lt, min, if◌then◌else◌}
use Rattle.zk_mem.specs.declared.fault.Fault.{Fault}
use Rattle.zk_mem.specs.declared.fault.Fault.TheVariants.{BadAddress, ReadOnly}
use Rattle.zk_mem.specs.declared.header.Header.{Header}
use Rattle.zk_mem.specs.declared.memory.Setup.{Setup}
use Rattle.zk_mem.specs.Header.{header_of, word_in}

-- the version, the address where dynamic memory ends, the bytes as they stand, those of the story
-- file, and what its interpreter tells of itself
pub record MemoryMap : Type 0 where
  pub version : ℕ
  pub static_base : ℕ
  pub bytes : List ℕ
  pub file : List ℕ
  pub setup : Setup

-- data is read below this address
abbrev pub readable_end : MemoryMap → ℕ
readable_end m = min (length m.bytes) 65536

-- the byte at an address
unfoldable pub byte_at : MemoryMap → ℕ → Result ℕ Fault
byte_at m a = if nat_lt a (readable_end m) then Ok (slice_index m.bytes a) else Err BadAddress

-- the word at an address, high byte first (section 2.1)
unfoldable pub word_at : MemoryMap → ℕ → Result ℕ Fault
word_at m a =
    if nat_lt (a + 1) (readable_end m)
    then Ok (word_in m.bytes a)
    else Err BadAddress

-- the map with a byte changed
abbrev pub with_byte : MemoryMap → ℕ → ℕ → MemoryMap
with_byte m a v = record m { bytes = slice_set m.bytes a v }

-- the map after a byte is written: dynamic memory alone changes (section 1.1.1)
unfoldable pub byte_put : MemoryMap → ℕ → ℕ → Result MemoryMap Fault
byte_put m a v =
    if nat_lt a (readable_end m)
    then (if nat_lt a m.static_base then Ok (with_byte m a v) else Err ReadOnly)
    else Err BadAddress

-- the map after a word is written
unfoldable pub word_put : MemoryMap → ℕ → ℕ → Result MemoryMap Fault
word_put m a v =
    if nat_lt (a + 1) (readable_end m)
    then (if nat_lt (a + 1) m.static_base
    then Ok (with_byte (with_byte m a (v / 256)) (a + 1) (v % 256))
    else Err ReadOnly)
    else Err BadAddress

-- the map with so many of its bytes copied to an address, as if at once
abbrev pub with_copy : MemoryMap → ℕ → ℕ → ℕ → MemoryMap
with_copy m from to count =
    record m { bytes = take to m.bytes ++ take count (drop from m.bytes) ++ drop (to + count) m.bytes }

-- the byte at any address of the story, for code and text
unfoldable pub cell_at : MemoryMap → ℕ → Option ℕ
cell_at m a = slice_get m.bytes a

-- the word at any address of the story, high byte first, for code and text (section 2.1)
unfoldable pub code_word_at : MemoryMap → ℕ → Option ℕ
code_word_at m a = if nat_lt (a + 1) (length m.bytes) then Some (word_in m.bytes a) else None

-- what stands at an address is a byte
pub record HasBytes (m : MemoryMap) : Type 0 where
  pub below : (a v : ℕ) → cell_at m a ≡ Some v → v < 256

-- from the static base on the bytes are those of the story file
abbrev pub KeepsFile : MemoryMap → Type 0
KeepsFile m = drop m.static_base m.bytes ≡ drop m.static_base m.file

-- what memory has of its file
pub record IsOfFile (m : MemoryMap) : Type 0 where
  pub version : m.version ≡ (header_of m.file).version
  pub static_base : m.static_base ≡ (header_of m.file).static_base
  pub size : length m.bytes ≡ length m.file
  pub keeps : KeepsFile m
  pub bytes : HasBytes m

-- what the parts of a memory keep to
pub record IsWhole (header : Header) (readable : ℕ) (bytes file : List ℕ) : Type 0 where
  pub header_is : header ≡ header_of file
  pub readable_is : readable ≡ min (length bytes) 65536
  pub length_is : length bytes ≡ length file
  pub shortest : 64 ≤ length bytes
  pub longest : length bytes ≤ 524288
  pub static_low : 64 ≤ header.static_base
  pub static_high : header.static_base ≤ readable
  pub static_is : drop header.static_base bytes ≡ drop header.static_base file
