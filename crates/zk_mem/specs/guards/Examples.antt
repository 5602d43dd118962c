-- Worked examples of this crate's definitions. Their values come from the Standard by hand, and no definition made
-- them.
use Rattle.std.specs.Prelude.{◌≡◌, ℕ, ◌+◌, ◌/◌, ◌%◌, List, [], ◌∷◌, ◌++◌, length, Some, None, Ok, Err, true, false}
use Rattle.std.specs.Prelude.{replicate, slice_index}
use Rattle.zk_mem.specs.declared.fault.Fault.TheVariants.{CodePastEnd, BadOpcode, MissingOperand, StackEmpty}
use Rattle.zk_mem.specs.declared.fault.Fault.TheVariants.{NoSuchLocal, BadAddress, ReadOnly, DivisionByZero, BadObject}
use Rattle.zk_mem.specs.declared.fault.Fault.TheVariants.{BadProperty, BadTree, TextPastEnd, NestedAbbreviation}
use Rattle.zk_mem.specs.declared.fault.Fault.TheVariants.{StreamDepth, BadFrame, ReturnFromMain, BadTarget}
use Rattle.zk_mem.specs.declared.fault.Fault.TheVariants.{BadDictionary}
use Rattle.zk_mem.specs.declared.story.OpenError.TheVariants.{TooShort, Version, TooLong, StaticBase, FirstInstruction}
use Rattle.zk_mem.specs.declared.story.OpenError.TheVariants.{OutOfMemory}
use Rattle.zk_mem.specs.Again.{settled, again, restarted}
use Rattle.zk_mem.specs.Checksum.{file_sum, has_right_sum}
use Rattle.zk_mem.specs.Faults.{fault_number}
use Rattle.zk_mem.specs.Fresh.{with_fields, fresh, plain_setup}
use Rattle.zk_mem.specs.declared.memory.Setup.{Setup}
use Rattle.zk_mem.specs.Header.{header_of, unpacked}
use Rattle.zk_mem.specs.Map.{MemoryMap, readable_end, byte_at, word_at, byte_put, word_put, with_copy, cell_at}
use Rattle.zk_mem.specs.Map.{code_word_at}
use Rattle.zk_mem.specs.Story.{greatest_length, is_over, refusal, refusal_number}
use Rattle.zk_mem.specs.Words.{words_in, words_at, text_end_at}

-- ---- the header (sections 1.2.3 and 11.1)

-- a header of a version: each byte but the first is its own address
abbrev pub numbered : ℕ → List ℕ
numbered version =
    version ∷ 0x01 ∷ 0x02 ∷ 0x03 ∷ 0x04 ∷ 0x05 ∷ 0x06 ∷ 0x07
    ∷ 0x08 ∷ 0x09 ∷ 0x0a ∷ 0x0b ∷ 0x0c ∷ 0x0d ∷ 0x0e ∷ 0x0f
    ∷ 0x10 ∷ 0x11 ∷ 0x12 ∷ 0x13 ∷ 0x14 ∷ 0x15 ∷ 0x16 ∷ 0x17
    ∷ 0x18 ∷ 0x19 ∷ 0x1a ∷ 0x1b ∷ 0x1c ∷ 0x1d ∷ 0x1e ∷ 0x1f
    ∷ 0x20 ∷ 0x21 ∷ 0x22 ∷ 0x23 ∷ 0x24 ∷ 0x25 ∷ 0x26 ∷ 0x27
    ∷ 0x28 ∷ 0x29 ∷ 0x2a ∷ 0x2b ∷ 0x2c ∷ 0x2d ∷ 0x2e ∷ 0x2f
    ∷ 0x30 ∷ 0x31 ∷ 0x32 ∷ 0x33 ∷ 0x34 ∷ 0x35 ∷ 0x36 ∷ 0x37
    ∷ 0x38 ∷ 0x39 ∷ 0x3a ∷ 0x3b ∷ 0x3c ∷ 0x3d ∷ 0x3e ∷ 0x3f ∷ []

-- each field of version 5 stands at the address that the Standard's table gives, words high byte first (section 11.1)
abbrev pub FieldsStand : Type 0
FieldsStand = header_of (numbered 5) ≡ record {
  version = 5;
  flags_1 = 0x01;
  release = 0x0203;
  high_memory = 0x0405;
  first_instruction = 0x0607;
  dictionary = 0x0809;
  objects = 0x0a0b;
  globals = 0x0c0d;
  static_base = 0x0e0f;
  flags_2 = 0x1011;
  serial = 0x12 ∷ 0x13 ∷ 0x14 ∷ 0x15 ∷ 0x16 ∷ 0x17 ∷ [];
  abbreviations = 0x1819;
  file_length = 0x1a1b;
  checksum = 0x1c1d;
  terminating_characters = 0x2e2f;
  alphabet = 0x3435;
  extension = 0x3637;
}

-- version 3 has no terminating characters, own alphabet or header extension (section 11.1)
abbrev pub LateFields : Type 0
LateFields =
    ((header_of (numbered 3)).terminating_characters ≡ 0)
    × ((header_of (numbered 4)).alphabet ≡ 0)
    × ((header_of (numbered 3)).extension ≡ 0)
    × ((header_of (numbered 8)).alphabet ≡ 0x3435)
    × ((header_of (numbered 3)).globals ≡ 0x0c0d)

-- a packed address counts units of 2 bytes up to version 3, of 4 in versions 4 and 5, and of 8 in version 8 (section
-- 1.2.3)
abbrev pub PackedByVersion : Type 0
PackedByVersion =
    (unpacked 3 0x1234 ≡ 0x2468) × (unpacked 4 0x1234 ≡ 0x48d0) × (unpacked 5 0x1234 ≡ 0x48d0)
    × (unpacked 8 0x1234 ≡ 0x91a0)

-- ---- data (sections 1.1 and 2.1)

-- memory with these bytes, of which three are dynamic
abbrev pub three_dynamic : List ℕ → MemoryMap
three_dynamic bytes = record { version = 5; static_base = 3; bytes = bytes; file = []; setup = plain_setup 0 }

-- four bytes: 0x11 at address 0 up to 0x44 at 3
abbrev pub four : MemoryMap
four = three_dynamic (0x11 ∷ 0x22 ∷ 0x33 ∷ 0x44 ∷ [])

-- a byte, and a word, high byte first, up to the last byte and not past it (sections 1.1 and 2.1)
abbrev pub DataIsRead : Type 0
DataIsRead =
    (byte_at four 0 ≡ Ok 0x11)
    × (byte_at four 3 ≡ Ok 0x44)
    × (byte_at four 4 ≡ Err BadAddress)
    × (word_at four 0 ≡ Ok 0x1122)
    × (word_at four 2 ≡ Ok 0x3344)
    × (word_at four 3 ≡ Err BadAddress)

-- code and text are read in the same way (section 1.1)
abbrev pub CodeIsRead : Type 0
CodeIsRead =
    (cell_at four 3 ≡ Some 0x44) × (cell_at four 4 ≡ None) × (code_word_at four 2 ≡ Some 0x3344)
    × (code_word_at four 3 ≡ None)

-- a byte is written below the static base alone (section 1.1.1)
abbrev pub BytesArePut : Type 0
BytesArePut =
    (byte_put four 2 9 ≡ Ok (three_dynamic (0x11 ∷ 0x22 ∷ 9 ∷ 0x44 ∷ [])))
    × (byte_put four 3 9 ≡ Err ReadOnly)
    × (byte_put four 4 9 ≡ Err BadAddress)

-- a word is written high byte first, where both of its bytes stand below the static base (sections 1.1.1 and 2.1)
abbrev pub WordsArePut : Type 0
WordsArePut =
    (word_put four 1 0x1234 ≡ Ok (three_dynamic (0x11 ∷ 0x12 ∷ 0x34 ∷ 0x44 ∷ [])))
    × (word_put four 2 0x1234 ≡ Err ReadOnly)
    × (word_put four 3 0x1234 ≡ Err BadAddress)

-- bytes are copied as if at once, also where they overlap
abbrev pub BytesAreCopied : Type 0
BytesAreCopied =
    (with_copy four 0 1 2 ≡ three_dynamic (0x11 ∷ 0x11 ∷ 0x22 ∷ 0x44 ∷ []))
    × (with_copy four 1 0 3 ≡ three_dynamic (0x22 ∷ 0x33 ∷ 0x44 ∷ 0x44 ∷ []))
    × (with_copy four 3 2 1 ≡ three_dynamic (0x11 ∷ 0x22 ∷ 0x44 ∷ 0x44 ∷ []))
    × (with_copy four 4 3 0 ≡ four)

-- of 70,000 bytes, data is read below 65,536 (section 1.1)
abbrev pub DataEndsAt65536 : Type 0
DataEndsAt65536 = (m : MemoryMap) → length m.bytes ≡ 70000 → readable_end m ≡ 65536

-- of 1,000 bytes it is read below 1,000 (section 1.1)
abbrev pub DataEndsWithTheStory : Type 0
DataEndsWithTheStory = (m : MemoryMap) → length m.bytes ≡ 1000 → readable_end m ≡ 1000

-- a word at 65,535 has its second byte past the end of data, a choice of zkit; the byte there is read (section 1.1)
abbrev pub WordAt65535IsOutside : Type 0
WordAt65535IsOutside = (m : MemoryMap) → length m.bytes ≡ 70000 →
    (word_at m 65535 ≡ Err BadAddress) × (byte_at m 65536 ≡ Err BadAddress)
    × (byte_at m 65535 ≡ Ok (slice_index m.bytes 65535))

-- ---- texts (section 3.2)

-- a text goes up to its first word with the top bit set, and that word is its last (section 3.2)
abbrev pub TextsEndAtTheMark : Type 0
TextsEndAtTheMark =
    (words_in (0x12 ∷ 0x34 ∷ 0x92 ∷ 0x34 ∷ 0x56 ∷ 0x78 ∷ []) ≡ Some (0x1234 ∷ 0x9234 ∷ []))
    × (words_in (0x80 ∷ 0x00 ∷ 0x92 ∷ 0x34 ∷ []) ≡ Some (0x8000 ∷ []))
    × (words_in (0x12 ∷ 0x34 ∷ 0x7f ∷ 0xff ∷ 0x92 ∷ []) ≡ None)

-- the text at 1 has the words 0x2233 and 0x8055, and ends at 5 (section 3.2)
abbrev pub TextsHaveAnEnd : Type 0
TextsHaveAnEnd =
    (words_at (three_dynamic (0x11 ∷ 0x22 ∷ 0x33 ∷ 0x80 ∷ 0x55 ∷ 0x66 ∷ [])) 1 ≡ Some (0x2233 ∷ 0x8055 ∷ []))
    × (text_end_at (three_dynamic (0x11 ∷ 0x22 ∷ 0x33 ∷ 0x80 ∷ 0x55 ∷ 0x66 ∷ [])) 1 ≡ Some 5)
    × (text_end_at four 0 ≡ None)

-- ---- what is a story (section 1.1.4)

-- 128, 256 and 512 KB; other versions are not played (section 1.1.4)
abbrev pub GreatestLengths : Type 0
GreatestLengths =
    (is_over (greatest_length 3) 131072 ≡ false)
    × (is_over (greatest_length 3) 131073 ≡ true)
    × (is_over (greatest_length 4) 262144 ≡ false)
    × (is_over (greatest_length 4) 262145 ≡ true)
    × (is_over (greatest_length 5) 262144 ≡ false)
    × (is_over (greatest_length 5) 262145 ≡ true)
    × (is_over (greatest_length 8) 524288 ≡ false)
    × (is_over (greatest_length 8) 524289 ≡ true)
    × (greatest_length 2 ≡ None)
    × (greatest_length 6 ≡ None)
    × (greatest_length 7 ≡ None)

-- a file of 64 bytes by its version, and the low bytes of its first instruction and its static base
abbrev pub file_with : ℕ → ℕ → ℕ → List ℕ
file_with version first base =
    version ∷ 0 ∷ 0 ∷ 0 ∷ 0 ∷ 0 ∷ 0 ∷ first ∷ 0 ∷ 0 ∷ 0 ∷ 0 ∷ 0 ∷ 0 ∷ 0 ∷ base ∷ [] ++ replicate 48 0

-- the static base is 64 at least and the file's length at most; the first instruction stands in the file (sections
-- 1.1 and 11.1)
abbrev pub StoriesAreOpened : Type 0
StoriesAreOpened =
    (refusal (file_with 3 63 64) ≡ None)
    × (refusal (file_with 4 0 64) ≡ None)
    × (refusal (file_with 5 0 64) ≡ None)
    × (refusal (file_with 8 63 64) ≡ None)
    × (refusal (file_with 3 63 63) ≡ Some StaticBase)
    × (refusal (file_with 3 63 65) ≡ Some StaticBase)
    × (refusal (file_with 3 64 64) ≡ Some FirstInstruction)

-- the first reason counts, a choice of zkit: the length, the version, the static base, the first instruction (section
-- 11.1)
abbrev pub ReasonsInOrder : Type 0
ReasonsInOrder =
    (refusal (replicate 63 7) ≡ Some TooShort)
    × (refusal (file_with 7 64 63) ≡ Some (Version 7))
    × (refusal (file_with 6 63 64) ≡ Some (Version 6))
    × (refusal (file_with 3 64 63) ≡ Some StaticBase)

-- the numbers of refusals that README's table has
abbrev pub RefusalsHaveNumbers : Type 0
RefusalsHaveNumbers =
    (refusal_number TooShort ≡ 1)
    × (refusal_number (Version 9) ≡ 2)
    × (refusal_number TooLong ≡ 3)
    × (refusal_number StaticBase ≡ 4)
    × (refusal_number FirstInstruction ≡ 5)
    × (refusal_number OutOfMemory ≡ 6)

-- the numbers of faults, a choice of zkit
abbrev pub FaultsHaveNumbers : Type 0
FaultsHaveNumbers =
    (fault_number CodePastEnd ≡ 1)
    × (fault_number BadOpcode ≡ 2)
    × (fault_number MissingOperand ≡ 3)
    × (fault_number StackEmpty ≡ 4)
    × (fault_number NoSuchLocal ≡ 5)
    × (fault_number BadAddress ≡ 6)
    × (fault_number ReadOnly ≡ 7)
    × (fault_number DivisionByZero ≡ 8)
    × (fault_number BadObject ≡ 9)
    × (fault_number BadProperty ≡ 10)
    × (fault_number BadTree ≡ 11)
    × (fault_number TextPastEnd ≡ 12)
    × (fault_number NestedAbbreviation ≡ 13)
    × (fault_number StreamDepth ≡ 14)
    × (fault_number BadFrame ≡ 15)
    × (fault_number ReturnFromMain ≡ 16)
    × (fault_number BadTarget ≡ 17)
    × (fault_number BadDictionary ≡ 18)

-- ---- the header's fields at the start (section 11.1)

-- Version 3, where all bits were set: Flags 1 says that there is a status line, a screen that can be split, and
-- letters of one width; the standard is 1.1 (section 11.1).
abbrev pub FieldsOfVersion3 : Type 0
FieldsOfVersion3 =
    with_fields 3 (plain_setup 0) (replicate 64 0xff)
    ≡ 0xff ∷ 0xaf ∷ [] ++ replicate 48 0xff ++ 1 ∷ 1 ∷ [] ++ replicate 12 0xff

-- the same where no bit was set (section 11.1)
abbrev pub FieldsOfVersion3SetABit : Type 0
FieldsOfVersion3SetABit =
    with_fields 3 (plain_setup 0) (replicate 64 0) ≡ 0 ∷ 0x20 ∷ [] ++ replicate 48 0 ++ 1 ∷ 1 ∷ [] ++ replicate 12 0

-- version 4: Flags 1, interpreter 6 of version A, 255 lines of 80 columns, the standard 1.1 (section 11.1)
abbrev pub FieldsOfVersion4 : Type 0
FieldsOfVersion4 =
    with_fields 4 (plain_setup 0) (replicate 64 0xff)
    ≡ 0xff ∷ 0x50 ∷ [] ++ replicate 28 0xff ++ 6 ∷ 65 ∷ 255 ∷ 80 ∷ [] ++ replicate 16 0xff ++ 1 ∷ 1 ∷ []
    ++ replicate 12 0xff

-- version 5, where all bits were set: beside these a screen of 80 by 255 units of 1 by 1, black and white, and in
-- Flags 2 no pictures, undo, mouse, colours, sounds or menus (section 11.1)
abbrev pub FieldsOfVersion5 : Type 0
FieldsOfVersion5 =
    with_fields 5 (plain_setup 0) (replicate 64 0xff)
    ≡ 0xff ∷ 0x50 ∷ [] ++ replicate 14 0xff ++ 0xfe ∷ 0x07 ∷ [] ++ replicate 12 0xff
    ++ 6 ∷ 65 ∷ 255 ∷ 80 ∷ 0 ∷ 80 ∷ 0 ∷ 255 ∷ 1 ∷ 1 ∷ [] ++ replicate 4 0xff ++ 2 ∷ 9 ∷ [] ++ replicate 4 0xff
    ++ 1 ∷ 1 ∷ [] ++ replicate 12 0xff

-- version 8 is the same, here where undo states are kept: the bit of undo stays (section 11.1)
abbrev pub FieldsOfVersion8 : Type 0
FieldsOfVersion8 =
    with_fields 8 (plain_setup 1) (replicate 64 0xff)
    ≡ 0xff ∷ 0x50 ∷ [] ++ replicate 14 0xff ++ 0xfe ∷ 0x17 ∷ [] ++ replicate 12 0xff
    ++ 6 ∷ 65 ∷ 255 ∷ 80 ∷ 0 ∷ 80 ∷ 0 ∷ 255 ∷ 1 ∷ 1 ∷ [] ++ replicate 4 0xff ++ 2 ∷ 9 ∷ [] ++ replicate 4 0xff
    ++ 1 ∷ 1 ∷ [] ++ replicate 12 0xff

-- a screen of 120 columns with bold and italic text, and two undo states
abbrev pub wide_setup : Setup
wide_setup = record { undo_states = 2; screen = record { columns = 120; styles = true } }

-- Flags 1 says from version 4 on that bold (bit 2), italic (bit 3) and fixed-pitch text (bit 4) is there; the line has
-- 120 characters, and from version 5 on as many units (sections 8.4 and 11.1)
abbrev pub FieldsOfAWideScreen : Type 0
FieldsOfAWideScreen =
    (with_fields 4 wide_setup (replicate 64 0)
    ≡ 0 ∷ 0x1c ∷ [] ++ replicate 28 0 ++ 6 ∷ 65 ∷ 255 ∷ 120 ∷ [] ++ replicate 16 0 ++ 1 ∷ 1 ∷ [] ++ replicate 12 0)
    × (with_fields 5 wide_setup (replicate 64 0xff)
    ≡ 0xff ∷ 0x5c ∷ [] ++ replicate 14 0xff ++ 0xfe ∷ 0x17 ∷ [] ++ replicate 12 0xff
    ++ 6 ∷ 65 ∷ 255 ∷ 120 ∷ 0 ∷ 120 ∷ 0 ∷ 255 ∷ 1 ∷ 1 ∷ [] ++ replicate 4 0xff ++ 2 ∷ 9 ∷ [] ++ replicate 4 0xff
    ++ 1 ∷ 1 ∷ [] ++ replicate 12 0xff)
    × (with_fields 3 wide_setup (replicate 64 0xff) ≡ with_fields 3 (plain_setup 2) (replicate 64 0xff))

-- the memory at the start has the version and the static base of the file, which is kept beside it (section 11.1)
abbrev pub MemoryStartsSo : Type 0
MemoryStartsSo =
    fresh (file_with 3 0 64) (plain_setup 2)
    ≡ record {
      version = 3;
      static_base = 64;
      bytes = 3 ∷ 0x20 ∷ 0 ∷ 0 ∷ 0 ∷ 0 ∷ 0 ∷ 0 ∷ 0 ∷ 0 ∷ 0 ∷ 0 ∷ 0 ∷ 0 ∷ 0 ∷ 64 ∷ [] ++ replicate 34 0 ++ 1 ∷ 1
          ∷ [] ++ replicate 12 0;
      file = file_with 3 0 64;
      setup = plain_setup 2;
    }

-- ---- the checksum (section 11.1.6, and section 15, `verify`)

-- a file of a version that states a length in units and a sum, with these bytes after the header
abbrev pub summed : ℕ → ℕ → ℕ → List ℕ → List ℕ
summed version length sum code =
    version ∷ [] ++ replicate 25 0 ++ 0 ∷ length ∷ sum / 256 ∷ sum % 256 ∷ [] ++ replicate 34 0 ++ code

-- six bytes whose sum is 0x046c
abbrev pub six : List ℕ
six = 0xbd ∷ 0xc4 ∷ 0xbb ∷ 0xbb ∷ 0xbb ∷ 0xba ∷ []

-- the bytes after the header up to the stated length, which counts units of 2, 4 or 8 bytes; all where none is stated
-- or more than there is; none where it ends inside the header
abbrev pub SumsGoToTheStatedLength : Type 0
SumsGoToTheStatedLength =
    (file_sum (summed 3 33 0 six) ≡ 0xbd + 0xc4)
    × (file_sum (summed 5 17 0 six) ≡ 0xbd + 0xc4 + 0xbb + 0xbb)
    × (file_sum (summed 8 8 0 six) ≡ 0)
    × (file_sum (summed 3 35 0 six) ≡ 0x046c)
    × (file_sum (summed 3 0 0 six) ≡ 0x046c)
    × (file_sum (summed 3 36 0 six) ≡ 0x046c)
    × (file_sum (summed 3 31 0 six) ≡ 0)

-- the sum is modulo 65,536: 300 bytes of 255 are 76,500
abbrev pub SumsAreModulo65536 : Type 0
SumsAreModulo65536 = file_sum (summed 3 0 0 (replicate 300 255)) ≡ 10964

-- it is compared with the word at 0x1c, and a stated length past the file is wrong
abbrev pub SumsAreCompared : Type 0
SumsAreCompared =
    (has_right_sum (summed 3 35 0x046c six) ≡ true)
    × (has_right_sum (summed 3 0 0x046c six) ≡ true)
    × (has_right_sum (summed 3 35 0x046d six) ≡ false)
    × (has_right_sum (summed 3 35 0x6c04 six) ≡ false)
    × (has_right_sum (summed 3 36 0x046c six) ≡ false)
    × (has_right_sum (summed 3 33 0x0181 six) ≡ true)

-- ---- memory that is put back (section 6.1)

-- memory of version 3 whose bytes are all 9, over a file of 64 bytes
abbrev pub written_over : MemoryMap
written_over =
    record { version = 3; static_base = 64; bytes = replicate 64 9; file = file_with 3 0 64; setup = plain_setup 2 }

-- a restart puts the file's bytes back, but for bits 0 and 1 of Flags 2, which were 1 and 0, and sets the header's
-- fields (section 6.1.3)
abbrev pub RestartsSo : Type 0
RestartsSo =
    restarted written_over ≡ record written_over {
      bytes = 3 ∷ 0x20 ∷ 0 ∷ 0 ∷ 0 ∷ 0 ∷ 0 ∷ 0 ∷ 0 ∷ 0 ∷ 0 ∷ 0 ∷ 0 ∷ 0 ∷ 0 ∷ 64 ∷ 0 ∷ 1 ∷ [] ++ replicate 32 0
          ++ 1 ∷ 1 ∷ [] ++ replicate 12 0;
    }

-- a restart sets them again (section 6.1.3)
abbrev pub WideScreensStay : Type 0
WideScreensStay = slice_index (restarted (record written_over { version = 4; setup = wide_setup })).bytes 0x21 ≡ 120

-- other bytes are put back in the same way: of 0xfd bit 0 stays set and bit 1 stays clear, of 0xfe the other way round
-- (section 6.1)
abbrev pub BytesArePutBack : Type 0
BytesArePutBack =
    (again written_over (replicate 64 0xfe) ≡ record written_over {
      bytes =
          0xfe ∷ 0xae ∷ [] ++ replicate 15 0xfe ++ 0xfd ∷ [] ++ replicate 32 0xfe ++ 1 ∷ 1 ∷ [] ++ replicate 12 0xfe;
    })
    × (slice_index (again (record written_over { bytes = replicate 64 0xfe }) (replicate 64 0xfd)).bytes 0x11 ≡ 0xfe)

-- settled with the bits of a byte (section 11.1)
abbrev pub SettlesSo : Type 0
SettlesSo =
    settled 0xfe written_over ≡ record written_over {
      bytes = 9 ∷ 0x29 ∷ [] ++ replicate 15 9 ++ 10 ∷ [] ++ replicate 32 9 ++ 1 ∷ 1 ∷ [] ++ replicate 12 9;
    }

-- in version 5 the bits of what is not there are cleared after that, and the bit of undo where no state is kept
-- (section
-- 11.1)
abbrev pub SettlesLaterVersions : Type 0
SettlesLaterVersions =
    (slice_index (settled 1 (record written_over {
      version = 5;
      setup = plain_setup 0;
      bytes = replicate 64 0xff;
    })).bytes 0x11 ≡ 0x05)
    × (slice_index (settled 2 (record written_over {
      version = 5;
      setup = plain_setup 1;
      bytes = replicate 64 0xff;
    })).bytes 0x11 ≡ 0x16)
