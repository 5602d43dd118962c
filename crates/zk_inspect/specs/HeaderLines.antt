-- What a header says, field by field (Standard, section 11.1). What a line looks like is zkit's choice.
use Rattle.std.specs.Prelude.{ℕ, Bool, true, false, ◌&&◌, List, [], ◌∷◌, ◌++◌, map, length, nat_lt, codes, decimal}
use Rattle.std.specs.Prelude.{if◌then◌else◌}
use Rattle.zk_mem.specs.Checksum.{has_right_sum, stated_length}
use Rattle.zk_mem.specs.Header.{header_of}
use Rattle.zk_mem.specs.Map.{MemoryMap}
use Rattle.zk_inspect.specs.Facts.{field_name}
use Rattle.zk_inspect.specs.declared.fact.Fact.{Fact}
use Rattle.zk_inspect.specs.declared.fact.Fact.TheVariants as fact
use Rattle.zk_inspect.specs.declared.fact.Field.{Field}
use Rattle.zk_inspect.specs.declared.fact.Field.TheVariants as field
use Rattle.zk_inspect.specs.declared.listing.header_lines.Value.{Value}
use Rattle.zk_inspect.specs.declared.listing.header_lines.Value.TheVariants.{Number, Address, Word, Byte, Serial}
use Rattle.zk_inspect.specs.declared.listing.header_lines.Value.TheVariants.{Checksum}
use Rattle.zk_term.specs.Numbers.{address_digits, word_digits, byte_digits}

-- a byte of ASCII that is seen, and a question mark (63) in place of others
abbrev pub visible_byte : ℕ → ℕ
visible_byte b = if nat_lt 32 b && nat_lt b 127 then b else 63

-- a serial number
abbrev pub serial_shown : List ℕ → List ℕ
serial_shown bytes = map visible_byte bytes

-- whether the checksum is right
abbrev pub sum_word : Bool → List ℕ
sum_word true = codes "ok"
sum_word false = codes "wrong"

-- what a field says
unfoldable pub value_text : Value → List ℕ
value_text (Number n) = decimal n
value_text (Address a) = address_digits a
value_text (Word w) = word_digits w
value_text (Byte b) = byte_digits b
value_text (Serial bytes) = serial_shown bytes
value_text (Checksum sum right) = word_digits sum ++ codes " " ++ sum_word right

-- what a field says; the length is the stated one, in bytes, and that of the file stands beside it
abbrev pub value_of : MemoryMap → Field → Value
value_of m field.Version = Number (header_of m.file).version
value_of m field.Release = Number (header_of m.file).release
value_of m field.Serial = Serial (header_of m.file).serial
value_of m field.Length = Number (stated_length m.file)
value_of m field.File = Number (length m.file)
value_of m field.Checksum = Checksum (header_of m.file).checksum (has_right_sum m.file)
value_of m field.Start = Address (header_of m.file).first_instruction
value_of m field.High = Address (header_of m.file).high_memory
value_of m field.Static = Address (header_of m.file).static_base
value_of m field.Dictionary = Address (header_of m.file).dictionary
value_of m field.Objects = Address (header_of m.file).objects
value_of m field.Globals = Address (header_of m.file).globals
value_of m field.Abbreviations = Address (header_of m.file).abbreviations
value_of m field.Flags1 = Byte (header_of m.file).flags_1
value_of m field.Flags2 = Word (header_of m.file).flags_2
value_of m field.Alphabet = Address (header_of m.file).alphabet
value_of m field.Extension = Address (header_of m.file).extension

-- the line of a field: its name, and what it says
unfoldable pub field_line : MemoryMap → Field → List ℕ
field_line m f = field_name f ++ codes " " ++ value_text (value_of m f)

-- the fields that every version has
abbrev pub common_fields : List Field
common_fields =
    field.Version ∷ field.Release ∷ field.Serial ∷ field.Length ∷ field.File ∷ field.Checksum ∷ field.Start
    ∷ field.High ∷ field.Static
    ∷ field.Dictionary ∷ field.Objects ∷ field.Globals ∷ field.Abbreviations ∷ field.Flags1 ∷ field.Flags2 ∷ []

-- the fields that versions from 5 on have
abbrev pub late_fields : List Field
late_fields = field.Alphabet ∷ field.Extension ∷ []

unfoldable pub late_facts : MemoryMap → List Fact
late_facts m = if nat_lt (header_of m.file).version 5 then [] else map fact.Field late_fields

-- each field
unfoldable pub header_facts : MemoryMap → List Fact
header_facts m = map fact.Field common_fields ++ late_facts m
