-- The texts that lie in a story one after another, and their lines (Standard, sections 1.2.3, 3.2 and 15). What a line
-- looks like is zkit's choice.
use Rattle.std.specs.Prelude.{◌≡◌, ◌⊎◌, ◌<◌, ℕ, ◌-◌, ◌/◌, length, get_or, Bool, true, false, List, [], ◌++◌, map}
use Rattle.std.specs.Prelude.{Option, Some, None, codes, if◌then◌else◌}
use Rattle.std.specs.List.{Contains}
use Rattle.zk_mem.specs.Header.{unit_length}
use Rattle.zk_mem.specs.Map.{MemoryMap}
use Rattle.zk_mem.specs.Words.{text_end_at}
use Rattle.zk_text.specs.Meaning.{text_units}
use Rattle.zk_code.specs.declared.instr.Instr.{Instr}
use Rattle.zk_code.specs.declared.opcode.Opcode.{Opcode}
use Rattle.zk_code.specs.declared.opcode.Opcode.TheVariants.{Printing}
use Rattle.zk_code.specs.declared.opcode.Printing.{Printing as PrintingOperation}
use Rattle.zk_code.specs.declared.opcode.Printing.TheVariants.{PrintPaddr}
use Rattle.zk_code.specs.Extent.{IsExtent, next_packed}
use Rattle.zk_code.specs.Grammar.{IsInstruction}
use Rattle.zk_code.specs.Routines.{code_start}
use Rattle.zk_inspect.specs.Beside.{IsWhole}
use Rattle.zk_inspect.specs.declared.reach.code.Code.{Code}
use Rattle.zk_inspect.specs.declared.whole.Whole.{Whole}
use Rattle.zk_inspect.specs.Listing.{units_text}
use Rattle.zk_inspect.specs.Lists.{IsAmong, IsListOf}
use Rattle.zk_inspect.specs.Texts.{constant_text}
use Rattle.zk_term.specs.Numbers.{address_digits, word_digits}
use Rattle.zk_inspect.specs.declared.fact.Fact.{Fact}
use Rattle.zk_inspect.specs.declared.fact.Fact.TheVariants.{Text}

-- whether an operation is `print_paddr`
abbrev pub prints_packed : PrintingOperation → Bool
prints_packed PrintPaddr = true
prints_packed _ = false

-- whether an opcode is
abbrev pub takes_packed : Opcode → Bool
takes_packed (Printing operation) = prints_packed operation
takes_packed _ = false

-- the byte address of the text that a `print_paddr` prints by a constant (section 15)
unfoldable pub packed_text : MemoryMap → Instr → Option ℕ
packed_text m i = if takes_packed i.opcode then constant_text m i else None

-- a text stands at an address: its last word lies in the story (section 3.2)
abbrev pub IsText : MemoryMap → ℕ → Type 0
IsText m t = (e : ℕ) × (text_end_at m t ≡ Some e)

-- the instruction at an address prints a text by its packed address
pub record PrintsText (m : MemoryMap) (a t : ℕ) : Type 0 where
  pub next : ℕ
  pub instr : Instr
  pub stands : IsInstruction m a instr next
  pub prints : packed_text m instr ≡ Some t

-- one of some code does
abbrev pub IsPrintedBy : MemoryMap → List ℕ → ℕ → Type 0
IsPrintedBy m code t = (a : ℕ) × Contains code a × PrintsText m a t

-- an address is the least packed one at or after the extent of the last of some routines (section 1.2.3)
pub record IsAfterLast (m : MemoryMap) (routines : List ℕ) (t : ℕ) : Type 0 where
  pub start : ℕ
  pub end : ℕ
  pub some : 0 < length routines
  pub begins : code_start m (get_or routines (length routines - 1) 0) ≡ Some start
  pub extent : IsExtent m start end
  pub next : t ≡ next_packed m end

-- a text stands at the least packed address at or after the end of another one
abbrev pub IsNextText : MemoryMap → ℕ → ℕ → Type 0
IsNextText m t n = (e : ℕ) × (text_end_at m t ≡ Some e) × (n ≡ next_packed m e) × IsText m n

-- a text lies in a story with some code: an instruction prints it, it stands after the last routine, or after one that
-- does
abbrev pub LiesText : MemoryMap → Code → ℕ → Type 0
LiesText m code =
    IsAmong (λ t. IsText m t × (IsPrintedBy m code.addresses t ⊎ IsAfterLast m code.routines t)) (IsNextText m)

-- the packed address of a byte address, as a constant (section 1.2.3)
unfoldable pub packed_constant : MemoryMap → ℕ → List ℕ
packed_constant m t = codes "#" ++ word_digits (t / unit_length m.version)

-- the line of a text: its byte address, its packed address, and what it prints
unfoldable pub text_line : MemoryMap → ℕ → List ℕ
text_line m t = address_digits t ++ codes " " ++ packed_constant m t ++ codes " " ++ units_text m (text_units m t)

-- the texts that lie in a story by its code and the routines that lie beside
pub record AreTextFacts (m : MemoryMap) (facts : List Fact) : Type 0 where
  pub code : Whole
  pub code_is : IsWhole m [] [] code
  pub texts : List ℕ
  pub texts_are : IsListOf (LiesText m code.code) texts
  pub are : facts ≡ map Text texts
