-- What the Standard lets pass, and an author hardly means: accesses outside of an array, calls of routine 0, and
-- objects inserted into themselves (Standard, sections 6.4.3, 12 and 15).
use Rattle.std.specs.Prelude.{ℕ, ◌==◌, ◌&&◌, not, List, Option, Some, None, option_map, option_and_then, slice_get}
use Rattle.std.specs.Prelude.{Result, Ok, Err, if◌then◌else◌}
use Rattle.zk_mem.specs.declared.fault.Fault.{Fault}
use Rattle.zk_mem.specs.Map.{MemoryMap}
use Rattle.zk_code.specs.declared.instr.Instr.{Instr}
use Rattle.zk_code.specs.declared.opcode.Array.{Array}
use Rattle.zk_code.specs.declared.opcode.Array.TheVariants.{Loadw, Loadb, Storew, Storeb}
use Rattle.zk_code.specs.declared.opcode.ObjectChange.{ObjectChange}
use Rattle.zk_code.specs.declared.opcode.ObjectChange.TheVariants.{InsertObj}
use Rattle.zk_code.specs.declared.opcode.Opcode.{Opcode}
use Rattle.zk_code.specs.declared.opcode.Opcode.TheVariants as opcode
use Rattle.zk_code.specs.declared.operands.Operand.{Operand}
use Rattle.zk_code.specs.Operands.{constant_of}
use Rattle.zk_code.specs.Reading.{instr_at}
use Rattle.zk_step.specs.declared.state.game_state.GameState.{GameState}
use Rattle.zk_strict.specs.declared.misuse.Extent.{Extent}
use Rattle.zk_strict.specs.declared.misuse.Misuse.{Misuse}
use Rattle.zk_strict.specs.declared.misuse.Misuse.TheVariants.{Read, Written, CallOfZero, IntoItself}
use Rattle.zk_strict.specs.declared.misuse.Outside.{Outside}
use Rattle.zk_strict.specs.declared.misuse.Watched.{Watched}
use Rattle.zk_strict.specs.declared.misuse.Watched.TheVariants.{Access, Call, Insert}
use Rattle.zk_strict.specs.Arrays.{outside}
use Rattle.zk_strict.specs.Values.{first_taken, second_taken}

-- ---- what is looked at

abbrev pub watched_change : ObjectChange → Option Watched
watched_change InsertObj = Some Insert
watched_change _ = None

-- what an opcode does that may be a misuse
abbrev pub watched_by : Opcode → Option Watched
watched_by (opcode.Array operation) = Some (Access operation)
watched_by (opcode.Call operation) = Some Call
watched_by (opcode.ObjectChange change) = watched_change change
watched_by _ = None

-- ---- the rule

abbrev pub access_misuse : Array → Outside → Misuse
access_misuse Loadw o = Read o
access_misuse Loadb o = Read o
access_misuse Storew o = Written o
access_misuse Storeb o = Written o

-- an array is read or written outside (section 15)
abbrev pub array_misuse : List Extent → Array → Option ℕ → Option ℕ → Option Misuse
array_misuse arrays operation (Some array) (Some index) =
    option_map (access_misuse operation) (outside arrays operation array index)
array_misuse arrays operation _ _ = None

-- a call of routine 0 does nothing and returns false (section 6.4.3)
abbrev pub call_misuse : Option ℕ → Option Misuse
call_misuse None = None
call_misuse (Some routine) = if routine == 0 then Some CallOfZero else None

-- an object is inserted into itself, where object 0 is none (section 12.3)
abbrev pub insert_misuse : Option ℕ → Option ℕ → Option Misuse
insert_misuse (Some object) (Some parent) =
    if object == parent && not (object == 0) then Some (IntoItself object) else None
insert_misuse _ _ = None

abbrev pub misuse_by : List Extent → Watched → Option ℕ → Option ℕ → Option Misuse
misuse_by arrays (Access operation) first second = array_misuse arrays operation first second
misuse_by arrays Call first second = call_misuse first
misuse_by arrays Insert first second = insert_misuse first second

-- the misuse that an opcode is, by the values of its first two operands, as far as they are known
unfoldable pub misuse_of : List Extent → Opcode → Option ℕ → Option ℕ → Option Misuse
misuse_of arrays op first second = option_and_then (λ what. misuse_by arrays what first second) (watched_by op)

-- ---- instructions

-- the value of the operand at an index, where it is a constant (section 4.2)
abbrev pub constant_at : List Operand → ℕ → Option ℕ
constant_at os index = option_and_then constant_of (slice_get os index)

-- by its constant operands
abbrev pub misuse_of_constants : List Extent → Instr → Option Misuse
misuse_of_constants arrays i = misuse_of arrays i.opcode (constant_at i.operands 0) (constant_at i.operands 1)

-- by the values that a step takes for its operands
abbrev pub misuse_of_values : List Extent → GameState → Instr → Option Misuse
misuse_of_values arrays w i = misuse_of arrays i.opcode (first_taken w i.operands) (second_taken w i.operands)

-- of an instruction, where there is one
abbrev pub misuse_of_any : (Instr → Option Misuse) → Result Instr Fault → Option Misuse
misuse_of_any misuse (Ok i) = misuse i
misuse_of_any misuse (Err f) = None

-- what is told of the instruction at a byte address without a run
abbrev pub misuse_at : MemoryMap → List Extent → ℕ → Option Misuse
misuse_at m arrays a = misuse_of_any (misuse_of_constants arrays) (instr_at m a)

-- what is told in a run of the instruction at a byte address, before it is carried out
abbrev pub misuse_next : GameState → List Extent → ℕ → Option Misuse
misuse_next w arrays a = misuse_of_any (misuse_of_values arrays w) (instr_at w.memory a)
