-- Worked examples of the objects that are listed and of the texts that are known to be texts. Their values come from
-- the Standard, by hand, and no definition made them.
use Rattle.std.specs.Prelude.{◌≡◌, ℕ, [], ◌∷◌, ◌++◌, replicate, Option, Some, None}
use Rattle.zk_mem.specs.Map.{MemoryMap}
use Rattle.zk_code.specs.declared.opcode.Opcode.{Opcode}
use Rattle.zk_code.specs.declared.opcode.Opcode.TheVariants.{Call, Control, Printing}
use Rattle.zk_code.specs.declared.opcode.Call.TheVariants.{Call1n}
use Rattle.zk_code.specs.declared.opcode.Control.TheVariants.{Jump}
use Rattle.zk_code.specs.declared.opcode.Printing.TheVariants.{PrintAddr, PrintChar, PrintObj, PrintPaddr}
use Rattle.zk_code.specs.declared.operands.Operand.{Operand}
use Rattle.zk_code.specs.declared.operands.Operand.TheVariants.{Large, Small, Variable}
use Rattle.zk_inspect.specs.guards.Examples.{abbreviating, memory_by, memory_of}
use Rattle.zk_inspect.specs.guards.ListExamples.{linked}
use Rattle.zk_inspect.specs.Objects.{IsListed, LeadsPast}
use Rattle.zk_inspect.specs.Texts.{IsAbbreviation, IsUnread, constant_text}

-- ---- objects (section 12.3)

-- the object table is at 4 in a story of version 3 of 94 bytes, so entries begin at 66, 75 and 84; the property tables
-- of objects 1 and 2 are at these addresses
abbrev pub objects_with : ℕ → ℕ → MemoryMap
objects_with first second =
    memory_by 3 (replicate 10 0 ++ 0 ∷ 4 ∷ []) (replicate 66 0 ++ replicate 8 0 ++ first ∷ replicate 8 0 ++ second
    ∷ replicate 10 0)

-- the first object is listed, and another one where its entry begins below the property tables of those before it
abbrev pub EntriesBelowTables : Type 0
EntriesBelowTables =
    IsListed (objects_with 75 90) 1 66
    × IsListed (objects_with 76 90) 2 75
    × IsListed (objects_with 90 85) 3 84

-- none is listed whose entry begins at such a table, or after it; or past data; nor object 0
abbrev pub EntriesAtTables : Type 0
EntriesAtTables =
    ((entry : ℕ) → IsListed (objects_with 75 90) 2 entry → ⊥)
    × ((entry : ℕ) → IsListed (objects_with 76 90) 3 entry → ⊥)
    × ((entry : ℕ) → IsListed (objects_with 90 84) 3 entry → ⊥)
    × ((entry : ℕ) → IsListed (objects_with 99 99) 4 entry → ⊥)
    × ((entry : ℕ) → IsListed (objects_with 75 90) 0 entry → ⊥)

-- where the header names no object table, none is listed
abbrev pub NoTableNoObjects : Type 0
NoTableNoObjects = (o entry : ℕ) → IsListed (memory_by 3 [] (replicate 94 0)) o entry → ⊥

-- a link to an object that is not listed
abbrev pub LinksLeadPast : Type 0
LinksLeadPast = LeadsPast (linked (2 ∷ 0 ∷ 0 ∷ [])) 1 × LeadsPast (linked (0 ∷ 2 ∷ 0 ∷ [])) 1
    × LeadsPast (linked (0 ∷ 0 ∷ 2 ∷ [])) 1

-- ---- texts

-- the text that an instruction of a story of a version prints by its first operand
abbrev pub text_by : ℕ → Opcode → Operand → Option ℕ
text_by version code operand =
    constant_text (memory_of version []) (record {
      opcode = code;
      operands = operand ∷ Small 1 ∷ [];
      store = None;
      branch = None;
      text = None;
      next = 9;
    })

-- `print_paddr` has a packed address, in units of 2, 4 and 8 bytes in versions 3, 5 and 8, and `print_addr` a byte
-- address; nothing is known of a text by a variable, and no other opcode has one (sections 1.2.3 and 15)
abbrev pub TextsByConstants : Type 0
TextsByConstants =
    (text_by 3 (Printing PrintPaddr) (Large 0x0123) ≡ Some 0x0246)
    × (text_by 5 (Printing PrintPaddr) (Large 0x0123) ≡ Some 0x048c)
    × (text_by 8 (Printing PrintPaddr) (Large 0x0123) ≡ Some 0x0918)
    × (text_by 3 (Printing PrintAddr) (Large 0x0123) ≡ Some 0x0123)
    × (text_by 5 (Printing PrintAddr) (Small 0x45) ≡ Some 0x45)
    × (text_by 5 (Printing PrintPaddr) (Variable 5) ≡ None)
    × (text_by 5 (Printing PrintAddr) (Variable 5) ≡ None)
    × (text_by 5 (Printing PrintObj) (Large 0x0123) ≡ None)
    × (text_by 5 (Printing PrintChar) (Small 0x45) ≡ None)
    × (text_by 5 (Call Call1n) (Large 0x0123) ≡ None)
    × (text_by 5 (Control Jump) (Large 0x0123) ≡ None)

-- of a table of abbreviations at 2 in a story of 10 bytes the words 0 to 3 can be read, and 4 to 95 can't; there is no
-- word 96, and none at an odd address (section 3.3)
abbrev pub WordsPastTheEnd : Type 0
WordsPastTheEnd =
    IsUnread abbreviating 10
    × IsUnread abbreviating 192
    × (IsUnread abbreviating 8 → ⊥)
    × (IsUnread abbreviating 11 → ⊥)
    × (IsUnread abbreviating 194 → ⊥)
    × ((a : ℕ) → IsUnread (memory_of 3 []) a → ⊥)

-- word 1 of the table is 4, so there is a text at 8 (section 1.2.2)
abbrev pub WordsAreAddresses : Type 0
WordsAreAddresses = IsAbbreviation abbreviating 0 × IsAbbreviation abbreviating 8 × IsAbbreviation abbreviating 64
