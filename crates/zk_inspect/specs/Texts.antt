-- The texts of a story that are known to be texts (Standard, sections 3.3, 4.8, 12.4 and 15).
use Rattle.std.specs.Prelude.{◌≡◌, ◌≢◌, ◌⊎◌, ℕ, ◌+◌, ◌*◌, ◌<◌, Option, Some, None, option_map, Ok, Err}
use Rattle.zk_mem.specs.declared.fault.Fault.{Fault}
use Rattle.zk_mem.specs.declared.fault.Fault.TheVariants.{BadAddress}
use Rattle.zk_mem.specs.Header.{header_of, unpacked}
use Rattle.zk_mem.specs.Map.{MemoryMap, word_at}
use Rattle.zk_text.specs.Meaning.{meaning_at, no_abbreviation, text_units}
use Rattle.zk_tables.specs.Properties.{name_of}
use Rattle.zk_code.specs.declared.instr.Instr.{Instr}
use Rattle.zk_code.specs.declared.opcode.Opcode.{Opcode}
use Rattle.zk_code.specs.declared.opcode.Opcode.TheVariants.{Printing}
use Rattle.zk_code.specs.declared.opcode.Printing.{Printing as PrintingOperation}
use Rattle.zk_code.specs.declared.opcode.Printing.TheVariants.{PrintAddr, PrintPaddr}
use Rattle.zk_code.specs.Grammar.{IsInstruction}
use Rattle.zk_code.specs.Reach.{IsReached, first_constant}
use Rattle.zk_inspect.specs.Objects.{IsListed}

-- the byte address of the text that an operation prints, by its operand: `print_addr` has a byte address, `print_paddr`
-- a packed one (section 15)
abbrev pub addressed_by : MemoryMap → PrintingOperation → Option ℕ → Option ℕ
addressed_by m PrintAddr v = v
addressed_by m PrintPaddr v = option_map (unpacked m.version) v
addressed_by m _ v = None

-- the text that an instruction prints by a constant
abbrev pub text_named : MemoryMap → Opcode → Option ℕ → Option ℕ
text_named m (Printing operation) v = addressed_by m operation v
text_named m _ v = None

-- the same, of a whole instruction
unfoldable pub constant_text : MemoryMap → Instr → Option ℕ
constant_text m i = text_named m i.opcode (first_constant i.operands)

-- there should be a text at an address: the name of an object, the text of an instruction that is reached, or one that
-- such an instruction prints by a constant
pub data IsPrinted (m : MemoryMap) : ℕ → Type 0 where
  Name : (o entry a : ℕ) → IsListed m o entry → name_of m o ≡ Ok (Some a) → IsPrinted m a
  Inline : (a b text : ℕ) (i : Instr) → IsReached m a → IsInstruction m a i b → i.text ≡ Some text → IsPrinted m text
  Addressed : (a b text : ℕ) (i : Instr) → IsReached m a → IsInstruction m a i b → constant_text m i ≡ Some text
      → IsPrinted m text

-- where a word of the table of abbreviations stands (section 3.3)
abbrev pub table_place : MemoryMap → ℕ → ℕ
table_place m n = (header_of m.file).abbreviations + 2 * n

-- there should be the text of an abbreviation at an address (sections 3.3 and 1.2.2)
pub record IsAbbreviation (m : MemoryMap) (a : ℕ) : Type 0 where
  pub number : ℕ
  pub few : number < 96
  pub tabled : (header_of m.file).abbreviations ≢ 0
  pub word : ℕ
  pub read : word_at m (table_place m number) ≡ Ok word
  pub address : a ≡ 2 * word

-- a word of the table of abbreviations can't be read
pub record IsUnread (m : MemoryMap) (a : ℕ) : Type 0 where
  pub number : ℕ
  pub few : number < 96
  pub tabled : (header_of m.file).abbreviations ≢ 0
  pub address : a ≡ table_place m number
  pub unread : word_at m a ≡ Err BadAddress

-- a text at an address has a fault: one that is printed, or one of an abbreviation, which uses none
abbrev pub HasFault : MemoryMap → Fault → ℕ → Type 0
HasFault m fault a = (IsPrinted m a × (text_units m a ≡ Err fault))
    ⊎ (IsAbbreviation m a × (meaning_at no_abbreviation m a ≡ Err fault))
