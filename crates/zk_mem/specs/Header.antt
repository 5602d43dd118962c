-- The header of a story file (Standard, section 11).
use Rattle.std.specs.Prelude.{ℕ, ◌+◌, ◌*◌, List, take, drop, slice_index, nat_lt, if◌then◌else◌}
use Rattle.zk_mem.specs.declared.header.Header.{Header}

-- the word at an address, high byte first (section 2.1)
abbrev pub word_in : List ℕ → ℕ → ℕ
word_in file a = 256 * slice_index file a + slice_index file (a + 1)

-- the word at an address that has a meaning from version 5 on
abbrev pub word_from_5 : List ℕ → ℕ → ℕ
word_from_5 file a = if nat_lt (slice_index file 0) 5 then 0 else word_in file a

-- what the header of a file says, field by field (section 11.1)
unfoldable pub header_of : List ℕ → Header
header_of file = record {
  version = slice_index file 0x00;
  flags_1 = slice_index file 0x01;
  release = word_in file 0x02;
  high_memory = word_in file 0x04;
  first_instruction = word_in file 0x06;
  dictionary = word_in file 0x08;
  objects = word_in file 0x0a;
  globals = word_in file 0x0c;
  static_base = word_in file 0x0e;
  flags_2 = word_in file 0x10;
  serial = take 6 (drop 0x12 file);
  abbreviations = word_in file 0x18;
  file_length = word_in file 0x1a;
  checksum = word_in file 0x1c;
  terminating_characters = word_from_5 file 0x2e;
  alphabet = word_from_5 file 0x34;
  extension = word_from_5 file 0x36;
}

-- the bytes in a unit of packed addresses and of the file's length (sections 1.2.3 and 11.1.6)
unfoldable pub unit_length : ℕ → ℕ
unit_length version = if nat_lt version 4 then 2 else if nat_lt version 6 then 4 else 8

-- the byte address of a packed address (section 1.2.3)
abbrev pub unpacked : ℕ → ℕ → ℕ
unpacked version p = unit_length version * p
