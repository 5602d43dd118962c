-- Notes on what the constants and the global variables of an instruction stand for (Standard, sections 4.2, 6.2 and
-- 15). What a note looks like is zkit's choice.
use Rattle.std.specs.Prelude.{ℕ, ◌+◌, ◌==◌, ◌||◌, ◌&&◌, Bool, false, List, [], ◌∷◌, ◌++◌, length, take, Option, Some}
use Rattle.std.specs.Prelude.{None, Result, Ok, Err, codes, decimal, nat_le, is_some, if◌then◌else◌}
use Rattle.std.specs.List.{flat_map, list_any, range_with_len}
use Rattle.zk_mem.specs.declared.fault.Fault.{Fault}
use Rattle.zk_mem.specs.Faults.{fault_number}
use Rattle.zk_mem.specs.Header.{unpacked}
use Rattle.zk_mem.specs.Map.{MemoryMap}
use Rattle.zk_text.specs.Extra.{own_characters}
use Rattle.zk_text.specs.Meaning.{Units, text_units}
use Rattle.zk_text.specs.Shown.{shown_all}
use Rattle.zk_code.specs.declared.instr.Instr.{Instr}
use Rattle.zk_code.specs.declared.opcode.Opcode.{Opcode}
use Rattle.zk_code.specs.declared.opcode.Opcode.TheVariants as opcode
use Rattle.zk_code.specs.declared.opcode.Printing.{Printing}
use Rattle.zk_code.specs.declared.opcode.Printing.TheVariants.{PrintAddr, PrintPaddr, PrintObj}
use Rattle.zk_code.specs.declared.opcode.ObjectChange.{ObjectChange}
use Rattle.zk_code.specs.declared.opcode.ObjectChange.TheVariants.{InsertObj}
use Rattle.zk_code.specs.declared.opcode.ObjectQuestion.{ObjectQuestion}
use Rattle.zk_code.specs.declared.opcode.ObjectQuestion.TheVariants.{GetPropLen, Jin}
use Rattle.zk_code.specs.declared.operands.Operand.{Operand}
use Rattle.zk_code.specs.declared.operands.Operand.TheVariants.{Variable}
use Rattle.zk_code.specs.Operands.{constant_of}
use Rattle.zk_code.specs.Reading.{instr_at}
use Rattle.zk_code.specs.Routines.{count_at}
use Rattle.zk_tables.specs.Properties.{name_of}
use Rattle.zk_term.specs.Numbers.{address_digits}
use Rattle.zk_inspect.specs.declared.reach.notes.Meaning.{Meaning}
use Rattle.zk_inspect.specs.declared.reach.notes.Meaning.TheVariants.{Number, Routine, PackedText, Text, Object}
use Rattle.zk_inspect.specs.GlobalLines.{global_place}
use Rattle.zk_inspect.specs.Listing.{instruction_text, names_variable, quoted_bytes}
use Rattle.zk_inspect.specs.ObjectLines.{name_text}

-- ---- what a constant stands for (section 15)

abbrev pub printed_meaning : Printing → Meaning
printed_meaning PrintAddr = Text
printed_meaning PrintPaddr = PackedText
printed_meaning PrintObj = Object
printed_meaning _ = Number

-- `get_prop_len` asks about the data of a property
abbrev pub asked_meaning : ObjectQuestion → Meaning
asked_meaning GetPropLen = Number
asked_meaning _ = Object

-- of the first operand
abbrev pub first_meaning : Opcode → Meaning
first_meaning (opcode.Call operation) = Routine
first_meaning (opcode.Printing operation) = printed_meaning operation
first_meaning (opcode.ObjectChange operation) = Object
first_meaning (opcode.ObjectQuestion operation) = asked_meaning operation
first_meaning _ = Number

abbrev pub changed_second : ObjectChange → Meaning
changed_second InsertObj = Object
changed_second _ = Number

abbrev pub asked_second : ObjectQuestion → Meaning
asked_second Jin = Object
asked_second _ = Number

-- of the second
abbrev pub second_meaning : Opcode → Meaning
second_meaning (opcode.ObjectChange operation) = changed_second operation
second_meaning (opcode.ObjectQuestion operation) = asked_second operation
second_meaning _ = Number

-- ---- notes

-- the first 60 characters between quotes, with dots after them where there are more
unfoldable pub shortened : List ℕ → List ℕ
shortened cs = codes "\"" ++ quoted_bytes (take 60 cs) ++ (if nat_le (length cs) 60 then codes "\"" else codes "\"...")

-- what a text prints, shortened, or why it has no meaning
unfoldable pub short_text : MemoryMap → Units → List ℕ
short_text m (Ok us) = shortened (shown_all (own_characters m) us)
short_text m (Err f) = codes "! F" ++ decimal (fault_number f)

-- the byte address that a call leads to, and whether a routine stands there (section 5.2)
unfoldable pub routine_note : MemoryMap → ℕ → List ℕ
routine_note m a = (if is_some (count_at m a) then codes "  ; routine " else codes "  ; ") ++ address_digits a

-- a call of 0 does nothing (section 6.4.3), and object 0 is none
unfoldable pub constant_note : MemoryMap → Meaning → ℕ → List ℕ
constant_note m Number c = []
constant_note m Routine c = if c == 0 then [] else routine_note m (unpacked m.version c)
constant_note m PackedText c = codes "  ; " ++ short_text m (text_units m (unpacked m.version c))
constant_note m Text c = codes "  ; " ++ short_text m (text_units m c)
constant_note m Object c = if c == 0 then [] else codes "  ; " ++ name_text m (name_of m c)

-- a variable has no note here
abbrev pub operand_note : MemoryMap → Meaning → Option ℕ → List ℕ
operand_note m meaning None = []
operand_note m meaning (Some c) = constant_note m meaning c

abbrev pub second_note : MemoryMap → Instr → List Operand → List ℕ
second_note m i [] = []
second_note m i (o ∷ os) = operand_note m (second_meaning i.opcode) (constant_of o)

-- of the first two operands: no other is a routine, a text or an object
unfoldable pub operand_notes : MemoryMap → Instr → List Operand → List ℕ
operand_notes m i [] = []
operand_notes m i (o ∷ os) = operand_note m (first_meaning i.opcode) (constant_of o) ++ second_note m i os

-- ---- global variables

abbrev pub is_variable : ℕ → Operand → Bool
is_variable v (Variable n) = n == v
is_variable v _ = false

abbrev pub is_number : ℕ → Option ℕ → Bool
is_number v None = false
is_number v (Some c) = c == v

-- an instruction names a variable by a constant
abbrev pub refers_to : Opcode → ℕ → List Operand → Bool
refers_to op v [] = false
refers_to op v (o ∷ os) = names_variable op && is_number v (constant_of o)

-- an instruction reads a variable, stores to it, or names it
abbrev pub has_variable : Instr → ℕ → Bool
has_variable i v = is_number v i.store || list_any (is_variable v) i.operands || refers_to i.opcode v i.operands

-- where the value of a global variable stands, whose number as a variable is 16 more (section 4.2.2)
unfoldable pub place_note : MemoryMap → ℕ → List ℕ
place_note m n = codes "  ; g" ++ decimal n ++ codes " at " ++ address_digits (global_place m n)

-- the same, of one that the instruction has
abbrev pub global_note : MemoryMap → Instr → ℕ → List ℕ
global_note m i n = if has_variable i (n + 16) then place_note m n else []

-- ---- lines

-- the notes on an instruction: on its constants, then on the global variables that it has, by their numbers
unfoldable pub notes : MemoryMap → Instr → List ℕ
notes m i = operand_notes m i i.operands ++ flat_map (global_note m i) (range_with_len 0 240)

-- an instruction with its notes, or a question mark where there is none
abbrev pub noted_text : MemoryMap → Result Instr Fault → List ℕ
noted_text m (Ok i) = instruction_text m i ++ notes m i
noted_text m (Err f) = codes "?"

-- the line of an address, with notes
unfoldable pub noted_line : MemoryMap → ℕ → List ℕ
noted_line m a = address_digits a ++ codes " " ++ noted_text m (instr_at m a)
