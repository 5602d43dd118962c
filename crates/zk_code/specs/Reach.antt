-- Reachable code: where a run comes to by what stands in the instructions (Standard, sections 4.7, 5 and 15).
use Rattle.std.specs.Prelude.{◌≡◌, ℕ, ◌==◌, Bool, true, false, List, [], ◌∷◌, length, Option, Some, None, option_map}
use Rattle.std.specs.Prelude.{option_and_then, if◌then◌else◌}
use Rattle.std.specs.List.{Contains}
use Rattle.zk_mem.specs.Header.{header_of, unpacked}
use Rattle.zk_mem.specs.Map.{MemoryMap}
use Rattle.zk_code.specs.declared.branch.BranchTarget.{BranchTarget}
use Rattle.zk_code.specs.declared.branch.BranchTarget.TheVariants.{At}
use Rattle.zk_code.specs.declared.instr.Instr.{Instr}
use Rattle.zk_code.specs.declared.opcode.Opcode.{Opcode}
use Rattle.zk_code.specs.declared.opcode.Opcode.TheVariants.{Call, Routine, Control, Printing, Saving}
use Rattle.zk_code.specs.declared.opcode.Routine.{Routine as RoutineOperation}
use Rattle.zk_code.specs.declared.opcode.Routine.TheVariants.{Catch, CheckArgCount}
use Rattle.zk_code.specs.declared.opcode.Control.TheVariants.{Jump}
use Rattle.zk_code.specs.declared.opcode.Printing.{Printing as PrintingOperation}
use Rattle.zk_code.specs.declared.opcode.Printing.TheVariants.{PrintRet}
use Rattle.zk_code.specs.declared.opcode.Saving.{Saving as SavingOperation}
use Rattle.zk_code.specs.declared.opcode.Saving.TheVariants.{Restart}
use Rattle.zk_code.specs.declared.operands.Operand.{Operand}
use Rattle.zk_code.specs.Operands.{constant_of}
use Rattle.zk_code.specs.Grammar.{IsInstruction}
use Rattle.zk_code.specs.Targets.{jump_target}
use Rattle.zk_code.specs.Routines.{code_start}

-- ---- ways on from an instruction

-- of those about routines all return but two, or unwind (section 15)
abbrev pub routine_goes_on : RoutineOperation → Bool
routine_goes_on Catch = true
routine_goes_on CheckArgCount = true
routine_goes_on _ = false

-- `print_ret` returns (section 15)
abbrev pub printing_goes_on : PrintingOperation → Bool
printing_goes_on PrintRet = false
printing_goes_on _ = true

-- `restart` begins anew (section 15)
abbrev pub saving_goes_on : SavingOperation → Bool
saving_goes_on Restart = false
saving_goes_on _ = true

-- whether what stands after an instruction may be carried out after it: not after a return, `throw`, `jump`, `quit` and
-- `restart` (section 15)
unfoldable pub goes_on : Opcode → Bool
goes_on (Routine operation) = routine_goes_on operation
goes_on (Control operation) = false
goes_on (Printing operation) = printing_goes_on operation
goes_on (Saving operation) = saving_goes_on operation
goes_on _ = true

-- the first operand, where it is a constant
abbrev pub first_constant : List Operand → Option ℕ
first_constant [] = None
first_constant (o ∷ os) = constant_of o

-- the address of a target inside the story
abbrev pub address_in : BranchTarget → Option ℕ
address_in (At a) = Some a
address_in _ = None

-- where the branch leads, where it leads to an address in the story (section 4.7)
unfoldable pub branch_address : Instr → Option ℕ
branch_address i = option_and_then (λ b. address_in b.target) i.branch

-- whether an opcode is `jump`
abbrev pub is_jump : Opcode → Bool
is_jump (Control Jump) = true
is_jump _ = false

-- where a `jump` by a constant leads (section 15, `jump`)
unfoldable pub constant_jump : MemoryMap → Instr → Option BranchTarget
constant_jump m i =
    if is_jump i.opcode then option_map (jump_target (length m.bytes) i.next) (first_constant i.operands) else None

-- the same, where that is an address in the story
unfoldable pub jump_address : MemoryMap → Instr → Option ℕ
jump_address m i = option_and_then address_in (constant_jump m i)

-- whether an opcode calls a routine
abbrev pub is_call : Opcode → Bool
is_call (Call operation) = true
is_call _ = false

-- the byte address of a packed one, but for 0, which names no routine (section 6.4.3)
abbrev pub called_at : MemoryMap → ℕ → Option ℕ
called_at m p = if p == 0 then None else Some (unpacked m.version p)

-- the byte address that is called by a constant (section 6.4)
unfoldable pub constant_call : MemoryMap → Instr → Option ℕ
constant_call m i = if is_call i.opcode then option_and_then (called_at m) (first_constant i.operands) else None

-- ---- what is reached

-- an address is reached from some: it is one of them, or comes from an instruction at one that is reached, up to b:
-- what stands after it, where its branch leads, where it jumps to by a constant, and the first instruction of a routine
-- that it calls by a constant
pub data IsReachedFrom (m : MemoryMap) (roots : List ℕ) : ℕ → Type 0 where
  Root : (a : ℕ) → Contains roots a → IsReachedFrom m roots a
  Behind : (a b : ℕ) (i : Instr) → IsReachedFrom m roots a → IsInstruction m a i b → goes_on i.opcode ≡ true
      → IsReachedFrom m roots b
  Branches : (a b c : ℕ) (i : Instr) → IsReachedFrom m roots a → IsInstruction m a i b → branch_address i ≡ Some c
      → IsReachedFrom m roots c
  Jumps : (a b c : ℕ) (i : Instr) → IsReachedFrom m roots a → IsInstruction m a i b → jump_address m i ≡ Some c
      → IsReachedFrom m roots c
  Calls : (a b r c : ℕ) (i : Instr) → IsReachedFrom m roots a → IsInstruction m a i b → constant_call m i ≡ Some r
      → code_start m r ≡ Some c → IsReachedFrom m roots c

-- there is a routine at an address, and an instruction that is reached calls it by a constant
pub record IsCalledFrom (m : MemoryMap) (roots : List ℕ) (r : ℕ) : Type 0 where
  pub address : ℕ
  pub next : ℕ
  pub instr : Instr
  pub start : ℕ
  pub reached : IsReachedFrom m roots address
  pub stands : IsInstruction m address instr next
  pub call : constant_call m instr ≡ Some r
  pub routine : code_start m r ≡ Some start

-- a run begins at the first instruction (section 5.5)
abbrev pub first_alone : MemoryMap → List ℕ
first_alone m = (header_of m.file).first_instruction ∷ []

-- an address is reached from the first instruction
abbrev pub IsReached : MemoryMap → ℕ → Type 0
IsReached m = IsReachedFrom m (first_alone m)

-- a routine is called there
abbrev pub IsCalled : MemoryMap → ℕ → Type 0
IsCalled m = IsCalledFrom m (first_alone m)

-- ---- laws

-- addresses that have some, and each way on from each instruction at one of them
pub record IsClosed (m : MemoryMap) (from : List ℕ) (P : ℕ → Type 0) : Type 0 where
  pub roots : (a : ℕ) → Contains from a → P a
  pub behind : (a b : ℕ) (i : Instr) → P a → IsInstruction m a i b → goes_on i.opcode ≡ true → P b
  pub branches : (a b c : ℕ) (i : Instr) → P a → IsInstruction m a i b → branch_address i ≡ Some c → P c
  pub jumps : (a b c : ℕ) (i : Instr) → P a → IsInstruction m a i b → jump_address m i ≡ Some c → P c
  pub calls : (a b r c : ℕ) (i : Instr) → P a → IsInstruction m a i b → constant_call m i ≡ Some r
      → code_start m r ≡ Some c → P c

-- what is reached from some is the least of these: it is one, and it lies in each that a test decides
abbrev pub ReachIsLeast : Type 0
ReachIsLeast =
    (m : MemoryMap) (roots : List ℕ)
    → IsClosed m roots (IsReachedFrom m roots)
    × ((is_in : ℕ → Bool) → IsClosed m roots (λ a. is_in a ≡ true) → (a : ℕ) → IsReachedFrom m roots a → is_in a ≡ true)
