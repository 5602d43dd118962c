-- Worked examples of ways on from an instruction and of what is reached, by the Standard's sections 4.7, 5, 6.4 and 15,
-- worked out by hand.
use Rattle.std.specs.Prelude.{◌≡◌, ℕ, List, [], ◌∷◌, Some, None, true, false, map, replicate}
use Rattle.zk_mem.specs.Fresh.{plain_setup}
use Rattle.zk_mem.specs.Map.{MemoryMap}
use Rattle.zk_code.specs.declared.branch.BranchTarget.{BranchTarget}
use Rattle.zk_code.specs.declared.branch.BranchTarget.TheVariants.{ReturnFalse, ReturnTrue, At, Below, Past}
use Rattle.zk_code.specs.declared.instr.Instr.{Instr}
use Rattle.zk_code.specs.declared.opcode.Opcode.{Opcode}
use Rattle.zk_code.specs.declared.opcode.Opcode.TheVariants as opcode
use Rattle.zk_code.specs.declared.opcode.Arithmetic.TheVariants.{Add}
use Rattle.zk_code.specs.declared.opcode.Comparison.TheVariants.{Je, Jz}
use Rattle.zk_code.specs.declared.opcode.Assignment.TheVariants.{Pull}
use Rattle.zk_code.specs.declared.opcode.Array.TheVariants.{Loadw}
use Rattle.zk_code.specs.declared.opcode.ObjectChange.TheVariants.{InsertObj}
use Rattle.zk_code.specs.declared.opcode.ObjectQuestion.TheVariants.{Jin}
use Rattle.zk_code.specs.declared.opcode.Call.TheVariants.{CallVs, Call1n, CallVn2}
use Rattle.zk_code.specs.declared.opcode.Routine.TheVariants.{Rtrue, Rfalse, Ret, RetPopped, Catch, Throw}
use Rattle.zk_code.specs.declared.opcode.Routine.TheVariants.{CheckArgCount}
use Rattle.zk_code.specs.declared.opcode.Control.TheVariants.{Jump, Quit}
use Rattle.zk_code.specs.declared.opcode.Printing.TheVariants.{Print, PrintRet, NewLine, PrintNum, PrintChar}
use Rattle.zk_code.specs.declared.opcode.Printing.TheVariants.{PrintUnicode, PrintAddr, PrintPaddr, PrintObj}
use Rattle.zk_code.specs.declared.opcode.Idle.TheVariants.{Nop}
use Rattle.zk_code.specs.declared.opcode.Reading.TheVariants.{Aread}
use Rattle.zk_code.specs.declared.opcode.Words.TheVariants.{Tokenise}
use Rattle.zk_code.specs.declared.opcode.Window.TheVariants.{EraseWindow}
use Rattle.zk_code.specs.declared.opcode.Stream.TheVariants.{OutputStream}
use Rattle.zk_code.specs.declared.opcode.Table.TheVariants.{ScanTable}
use Rattle.zk_code.specs.declared.opcode.Saving.TheVariants.{SaveBranch, SaveStore, RestoreBranch, RestoreStore, Save}
use Rattle.zk_code.specs.declared.opcode.Saving.TheVariants.{Restore, Restart, Verify, SaveUndo, RestoreUndo}
use Rattle.zk_code.specs.declared.operands.Operand.{Operand}
use Rattle.zk_code.specs.declared.operands.Operand.TheVariants.{Large, Small, Variable}
use Rattle.zk_code.specs.Reach.{goes_on, branch_address, jump_address, constant_call, IsReached, IsCalled}

-- ---- ways on from an instruction

-- nothing after a return, `throw`, `jump`, `quit`, `print_ret` and `restart` is carried out next (section 15)
abbrev pub EndsGoNowhere : Type 0
EndsGoNowhere =
    map goes_on (opcode.Routine Rtrue ∷ opcode.Routine Rfalse ∷ opcode.Routine Ret ∷ opcode.Routine RetPopped
    ∷ opcode.Routine Throw
    ∷ opcode.Control Jump ∷ opcode.Control Quit ∷ opcode.Printing PrintRet ∷ opcode.Saving Restart ∷ [])
    ≡ replicate 9 false

-- after all others of these groups it is, and after one of each other group (section 15)
abbrev pub OthersGoOn : Type 0
OthersGoOn =
    (map goes_on (opcode.Routine Catch ∷ opcode.Routine CheckArgCount ∷ []) ≡ replicate 2 true)
    × (map goes_on (opcode.Printing Print ∷ opcode.Printing NewLine ∷ opcode.Printing PrintNum
    ∷ opcode.Printing PrintChar
    ∷ opcode.Printing PrintUnicode ∷ opcode.Printing PrintAddr ∷ opcode.Printing PrintPaddr
    ∷ opcode.Printing PrintObj ∷ [])
    ≡ replicate 8 true)
    × (map goes_on (opcode.Saving SaveBranch ∷ opcode.Saving SaveStore ∷ opcode.Saving RestoreBranch
    ∷ opcode.Saving RestoreStore
    ∷ opcode.Saving Save ∷ opcode.Saving Restore ∷ opcode.Saving Verify ∷ opcode.Saving SaveUndo
    ∷ opcode.Saving RestoreUndo ∷ [])
    ≡ replicate 9 true)
    × (map goes_on (opcode.Arithmetic Add ∷ opcode.Comparison Je ∷ opcode.Assignment Pull ∷ opcode.Push
    ∷ opcode.Array Loadw
    ∷ opcode.ObjectChange InsertObj ∷ opcode.ObjectQuestion Jin ∷ opcode.Call CallVs ∷ opcode.Idle Nop
    ∷ opcode.Reading Aread
    ∷ opcode.Words Tokenise ∷ opcode.Window EraseWindow ∷ opcode.Stream OutputStream ∷ opcode.Table ScanTable
    ∷ opcode.Random ∷ [])
    ≡ replicate 15 true)

-- an instruction before address 53, with no branch
abbrev pub before_53 : Opcode → List Operand → Instr
before_53 code operands =
    record { opcode = code; operands = operands; store = None; branch = None; text = None; next = 53 }

-- the same with a branch
abbrev pub branching_to : BranchTarget → Instr
branching_to target =
    record (before_53 (opcode.Comparison Jz) (Small 1 ∷ [])) { branch = Some (record { on = true; target = target }) }

-- a branch leads to its address in the story; one that returns leads to none, and neither does one out of the story
-- (section 4.7)
abbrev pub BranchesToAddresses : Type 0
BranchesToAddresses =
    (branch_address (branching_to (At 20)) ≡ Some 20)
    × (branch_address (branching_to ReturnTrue) ≡ None)
    × (branch_address (branching_to ReturnFalse) ≡ None)
    × (branch_address (branching_to (Past 100)) ≡ None)
    × (branch_address (branching_to (Below 8)) ≡ None)
    × (branch_address (before_53 (opcode.Control Jump) (Large 10 ∷ [])) ≡ None)

-- a story of 100 bytes
abbrev pub hundred : ℕ → MemoryMap
hundred version = record {
  version = version;
  static_base = 0;
  bytes = replicate 100 0;
  file = [];
  setup = plain_setup 0;
}

-- a `jump` by a constant leads on from the address after it by so many, less 2, with a sign: 53 + 10 - 2 is 61, and
-- 53 - 16 - 2 is 35. Nothing is known of one by a variable, nor of one out of the story, and no other opcode jumps
-- (section 15)
abbrev pub JumpsToAddresses : Type 0
JumpsToAddresses =
    (jump_address (hundred 3) (before_53 (opcode.Control Jump) (Large 10 ∷ [])) ≡ Some 61)
    × (jump_address (hundred 3) (before_53 (opcode.Control Jump) (Large 0xfff0 ∷ [])) ≡ Some 35)
    × (jump_address (hundred 3) (before_53 (opcode.Control Jump) (Small 10 ∷ [])) ≡ Some 61)
    × (jump_address (hundred 3) (before_53 (opcode.Control Jump) (Large 49 ∷ [])) ≡ None)
    × (jump_address (hundred 3) (before_53 (opcode.Control Jump) (Large 0xffcc ∷ [])) ≡ None)
    × (jump_address (hundred 3) (before_53 (opcode.Control Jump) (Variable 10 ∷ [])) ≡ None)
    × (jump_address (hundred 3) (before_53 (opcode.Control Quit) (Large 10 ∷ [])) ≡ None)
    × (jump_address (hundred 3) (before_53 (opcode.Call Call1n) (Large 10 ∷ [])) ≡ None)

-- a call by a constant calls what that is the packed address of, in units of 2, 4 and 8 bytes in versions 3, 5 and 8; 0
-- calls no routine, and nothing is known of one by a variable; an argument is no routine (sections 1.2.3 and 6.4)
abbrev pub CallsByConstants : Type 0
CallsByConstants =
    (constant_call (hundred 3) (before_53 (opcode.Call CallVs) (Large 0x0123 ∷ Small 5 ∷ [])) ≡ Some 0x0246)
    × (constant_call (hundred 5) (before_53 (opcode.Call Call1n) (Large 0x0123 ∷ [])) ≡ Some 0x048c)
    × (constant_call (hundred 8) (before_53 (opcode.Call CallVn2) (Small 20 ∷ [])) ≡ Some 160)
    × (constant_call (hundred 5) (before_53 (opcode.Call CallVs) (Large 0 ∷ Small 5 ∷ [])) ≡ None)
    × (constant_call (hundred 5) (before_53 (opcode.Call CallVs) (Variable 20 ∷ Small 5 ∷ [])) ≡ None)
    × (constant_call (hundred 5) (before_53 (opcode.Control Jump) (Large 20 ∷ [])) ≡ None)
    × (constant_call (hundred 5) (before_53 (opcode.Printing PrintPaddr) (Large 20 ∷ [])) ≡ None)

-- ---- what is reached

-- a story of version 3 that begins at 8: there `jz 0` branches to 20; at 11 the routine at 22 is called, whose packed
-- address is 11; at 15 stands a `jump` to 19. At 19 and at 20 stand returns, and after the `jump` and the second return
-- `nop`s. The routine has one local variable, with the value 5, and at 25 a return.
abbrev pub calling : List ℕ
calling =
    3 ∷ 0 ∷ 0 ∷ 0 ∷ 0 ∷ 0 ∷ 0 ∷ 8
    ∷ 0x90 ∷ 0 ∷ 0xcb
    ∷ 0xe0 ∷ 0x7f ∷ 11 ∷ 0
    ∷ 0x8c ∷ 0 ∷ 3
    ∷ 0xb4
    ∷ 0xb0
    ∷ 0xb1
    ∷ 0xb4
    ∷ 1 ∷ 0 ∷ 5
    ∷ 0xb0 ∷ []

abbrev pub calling_story : MemoryMap
calling_story = record { version = 3; static_base = 0; bytes = calling; file = calling; setup = plain_setup 0 }

-- the first instruction is reached, and from there each way on (sections 4.7, 5.3, 5.5 and 15)
abbrev pub WaysAreReached : Type 0
WaysAreReached =
    IsReached calling_story 8 × IsReached calling_story 11 × IsReached calling_story 20 × IsReached calling_story 15
    × IsReached calling_story 19 × IsReached calling_story 25

-- what stands after a `jump` and after a return is not, nor is a routine's header
abbrev pub RestIsNotReached : Type 0
RestIsNotReached =
    (IsReached calling_story 18 → ⊥) × (IsReached calling_story 21 → ⊥) × (IsReached calling_story 22 → ⊥)

-- the routine is called (section 6.4)
abbrev pub RoutineIsCalled : Type 0
RoutineIsCalled = IsCalled calling_story 22
