-- Worked examples of this crate's definitions: bytes and what they spell, by the Standard's sections 4 and 14, worked
-- out by hand.
use Rattle.std.specs.Prelude.{◌≡◌, ℕ, Bool, List, [], ◌∷◌, Option, Some, None, Result, Ok, Err, true, false, map, codes}
use Rattle.zk_mem.specs.declared.fault.Fault.{Fault}
use Rattle.zk_mem.specs.declared.fault.Fault.TheVariants.{CodePastEnd, BadOpcode, MissingOperand}
use Rattle.zk_mem.specs.Fresh.{plain_setup}
use Rattle.zk_code.specs.declared.branch.BranchTarget.{BranchTarget}
use Rattle.zk_code.specs.declared.branch.BranchTarget.TheVariants.{ReturnFalse, ReturnTrue, At, Below, Past}
use Rattle.zk_code.specs.declared.instr.Instr.{Instr}
use Rattle.zk_code.specs.declared.opcode.Opcode.{Opcode}
use Rattle.zk_code.specs.declared.opcode.Opcode.TheVariants as opcode
use Rattle.zk_code.specs.declared.opcode.Arithmetic.TheVariants.{Or, And, Not, Add, Sub, Mul, Div, Mod, LogShift}
use Rattle.zk_code.specs.declared.opcode.Arithmetic.TheVariants.{ArtShift}
use Rattle.zk_code.specs.declared.opcode.Comparison.TheVariants.{Je, Jl, Jg, Jz, Test}
use Rattle.zk_code.specs.declared.opcode.Assignment.TheVariants.{Store, Load, Inc, Dec, IncChk, DecChk, Pull, Pop}
use Rattle.zk_code.specs.declared.opcode.Array.TheVariants.{Loadw, Loadb, Storew, Storeb}
use Rattle.zk_code.specs.declared.opcode.ObjectChange.TheVariants.{SetAttr, ClearAttr, InsertObj, RemoveObj, PutProp}
use Rattle.zk_code.specs.declared.opcode.ObjectQuestion.TheVariants.{Jin, TestAttr, GetProp, GetPropAddr, GetNextProp}
use Rattle.zk_code.specs.declared.opcode.ObjectQuestion.TheVariants.{GetPropLen, GetParent, GetSibling, GetChild}
use Rattle.zk_code.specs.declared.opcode.Call.TheVariants.{CallVs, Call1s, Call2s, CallVs2, CallVn, Call1n, Call2n}
use Rattle.zk_code.specs.declared.opcode.Call.TheVariants.{CallVn2}
use Rattle.zk_code.specs.declared.opcode.Routine.TheVariants.{Rtrue, Rfalse, Ret, RetPopped, Catch, Throw}
use Rattle.zk_code.specs.declared.opcode.Routine.TheVariants.{CheckArgCount}
use Rattle.zk_code.specs.declared.opcode.Control.TheVariants.{Jump, Quit}
use Rattle.zk_code.specs.declared.opcode.Printing.TheVariants.{Print, PrintRet, NewLine, PrintNum, PrintChar}
use Rattle.zk_code.specs.declared.opcode.Printing.TheVariants.{PrintUnicode, PrintAddr, PrintPaddr, PrintObj}
use Rattle.zk_code.specs.declared.opcode.Idle.TheVariants.{Nop, SetColour, SetTrueColour, BufferMode, Piracy}
use Rattle.zk_code.specs.declared.opcode.Idle.TheVariants.{CheckUnicode}
use Rattle.zk_code.specs.declared.opcode.Reading.TheVariants.{Sread, Aread, ReadChar}
use Rattle.zk_code.specs.declared.opcode.Words.TheVariants.{Tokenise, EncodeText}
use Rattle.zk_code.specs.declared.opcode.Window.TheVariants.{SplitWindow, SetWindow, EraseWindow, EraseLine, SetCursor}
use Rattle.zk_code.specs.declared.opcode.Window.TheVariants.{GetCursor, ShowStatus, SetTextStyle, SetFont, SoundEffect}
use Rattle.zk_code.specs.declared.opcode.Stream.TheVariants.{OutputStream, InputStream}
use Rattle.zk_code.specs.declared.opcode.Table.TheVariants.{ScanTable, CopyTable, PrintTable}
use Rattle.zk_code.specs.declared.opcode.Saving.TheVariants.{SaveBranch, SaveStore, RestoreBranch, RestoreStore, Save}
use Rattle.zk_code.specs.declared.opcode.Saving.TheVariants.{Restore, Restart, Verify, SaveUndo, RestoreUndo}
use Rattle.zk_code.specs.declared.operands.Operand.{Operand}
use Rattle.zk_code.specs.declared.operands.Operand.TheVariants.{Large, Small, Variable}
use Rattle.zk_code.specs.declared.table.OpcodeRow.{OpcodeRow}
use Rattle.zk_code.specs.declared.table.Follows.{Follows}
use Rattle.zk_code.specs.declared.table.Follows.TheVariants.{Nothing, Stores, Branches, StoresBranches, Text}
use Rattle.zk_code.specs.Reading.{instr_at}
use Rattle.zk_code.specs.Table.{two_operand, one_operand, zero_operand, variable_operand, extended, name_of}
use Rattle.zk_code.specs.Targets.{branch_target, jump_target}

-- what is read at address 0 of a story of a version with these bytes
abbrev pub read : ℕ → List ℕ → Result Instr Fault
read version bytes =
    instr_at (record { version = version; static_base = 0; bytes = bytes; file = []; setup = plain_setup 0 }) 0

-- an instruction with no branch and no text
abbrev pub plain : Opcode → List Operand → Option ℕ → ℕ → Result Instr Fault
plain code operands store next =
    Ok (record { opcode = code; operands = operands; store = store; branch = None; text = None; next = next })

-- an instruction that branches and stores nothing
abbrev pub branching : Opcode → List Operand → Bool → BranchTarget → ℕ → Result Instr Fault
branching code operands on target next =
    Ok (record {
      opcode = code;
      operands = operands;
      store = None;
      branch = Some (record { on = on; target = target });
      text = None;
      next = next;
    })

-- ---- forms and operands (sections 4.2 to 4.5)

-- bit 6 is the type of the first operand of a long form, and bit 5 that of the second: 0 a small constant, 1 a
-- variable (section 4.4.2)
abbrev pub LongForms : Type 0
LongForms =
    (read 5 (0x15 ∷ 7 ∷ 2 ∷ 3 ∷ []) ≡ plain (opcode.Arithmetic Sub) (Small 7 ∷ Small 2 ∷ []) (Some 3) 4)
    × (read 5 (0x55 ∷ 7 ∷ 2 ∷ 3 ∷ []) ≡ plain (opcode.Arithmetic Sub) (Variable 7 ∷ Small 2 ∷ []) (Some 3) 4)
    × (read 5 (0x35 ∷ 7 ∷ 2 ∷ 3 ∷ []) ≡ plain (opcode.Arithmetic Sub) (Small 7 ∷ Variable 2 ∷ []) (Some 3) 4)
    × (read 3 (0x75 ∷ 7 ∷ 2 ∷ 3 ∷ []) ≡ plain (opcode.Arithmetic Sub) (Variable 7 ∷ Variable 2 ∷ []) (Some 3) 4)

-- 0x80 begins a short form with a large constant, high byte first, 0x90 with a small one, 0xa0 with a variable, and
-- 0xb0 with no operand (section 4.4.1)
abbrev pub ShortForms : Type 0
ShortForms =
    (read 5 (0x8b ∷ 0x12 ∷ 0x34 ∷ []) ≡ plain (opcode.Routine Ret) (Large 0x1234 ∷ []) None 3)
    × (read 5 (0x9b ∷ 0x12 ∷ []) ≡ plain (opcode.Routine Ret) (Small 0x12 ∷ []) None 2)
    × (read 5 (0xab ∷ 0x12 ∷ []) ≡ plain (opcode.Routine Ret) (Variable 0x12 ∷ []) None 2)
    × (read 5 (0xb0 ∷ []) ≡ plain (opcode.Routine Rtrue) [] None 1)
    × (read 5 (0xbb ∷ []) ≡ plain (opcode.Printing NewLine) [] None 1)

-- 0xc0 begins a variable form of two-operand opcodes: 0xd4 is `add`, 0xc1 `je`; the type byte 0x93 says a variable, a
-- small constant, a large one, and no fourth (section 4.4.3)
abbrev pub VariableForms : Type 0
VariableForms =
    (read 5 (0xd4 ∷ 0x1f ∷ 0x12 ∷ 0x34 ∷ 7 ∷ 0 ∷ []) ≡ plain (opcode.Arithmetic Add)
    (Large 0x1234 ∷ Small 7 ∷ []) (Some 0) 6)
    × (read 5 (0xc1 ∷ 0x93 ∷ 5 ∷ 6 ∷ 0x12 ∷ 0x34 ∷ 0x40 ∷ []) ≡ branching (opcode.Comparison Je)
    (Variable 5 ∷ Small 6 ∷ Large 0x1234 ∷ []) false ReturnFalse 7)
    × (read 5 (0xe8 ∷ 0x7f ∷ 9 ∷ []) ≡ plain opcode.Push (Small 9 ∷ []) None 3)
    × (read 5 (0xe0 ∷ 0x2f ∷ 0x12 ∷ 0x34 ∷ 7 ∷ 0x10 ∷ []) ≡ plain (opcode.Call CallVs)
    (Large 0x1234 ∷ Variable 7 ∷ []) (Some 0x10) 6)

-- after the first omitted type no operand comes, a choice of zkit for types that go on (section 4.4.3)
abbrev pub OperandsEndAtOmitted : Type 0
OperandsEndAtOmitted = read 5 (0xe8 ∷ 0x77 ∷ 9 ∷ []) ≡ plain opcode.Push (Small 9 ∷ []) None 3

-- `call_vs2` and `call_vn2` have two type bytes (section 4.4.3.1)
abbrev pub TwoTypeBytes : Type 0
TwoTypeBytes =
    (read 5 (0xec ∷ 0x55 ∷ 0x57 ∷ 1 ∷ 2 ∷ 3 ∷ 4 ∷ 5 ∷ 6 ∷ 7 ∷ 8 ∷ [])
    ≡ plain (opcode.Call CallVs2) (Small 1 ∷ Small 2 ∷ Small 3 ∷ Small 4 ∷ Small 5 ∷ Small 6 ∷ Small 7 ∷ [])
    (Some 8) 11)
    × (read 5 (0xfa ∷ 0x5a ∷ 0xbf ∷ 1 ∷ 2 ∷ 3 ∷ 4 ∷ 5 ∷ [])
    ≡ plain (opcode.Call CallVn2) (Small 1 ∷ Small 2 ∷ Variable 3 ∷ Variable 4 ∷ Variable 5 ∷ []) None 8)

-- 0xbe begins an extended form from version 5 on, and nothing before it (sections 4.3 and 4.3.4)
abbrev pub ExtendedForms : Type 0
ExtendedForms =
    (read 5 (0xbe ∷ 0x02 ∷ 0x1f ∷ 0x12 ∷ 0x34 ∷ 4 ∷ 5 ∷ []) ≡ plain (opcode.Arithmetic LogShift)
    (Large 0x1234 ∷ Small 4 ∷ []) (Some 5) 7)
    × (read 8 (0xbe ∷ 0x03 ∷ 0x5f ∷ 1 ∷ 4 ∷ 5 ∷ []) ≡ plain (opcode.Arithmetic ArtShift)
    (Small 1 ∷ Small 4 ∷ []) (Some 5) 6)
    × (read 4 (0xbe ∷ 0x02 ∷ 0x1f ∷ 0x12 ∷ 0x34 ∷ 4 ∷ 5 ∷ []) ≡ Err BadOpcode)
    × (read 5 (0xbe ∷ 0x1d ∷ 0x1f ∷ 0x12 ∷ 0x34 ∷ 4 ∷ 5 ∷ []) ≡ Err BadOpcode)

-- ---- what follows the operands (sections 4.6 to 4.8)

-- the text of `print` begins right after its byte, and the next instruction after its last word (section 4.8)
abbrev pub TextsFollow : Type 0
TextsFollow =
    read 5 (0xb2 ∷ 0x18 ∷ 0xe8 ∷ 0x98 ∷ 0xe8 ∷ 0xba ∷ [])
    ≡ Ok (record {
      opcode = opcode.Printing Print;
      operands = [];
      store = None;
      branch = None;
      text = Some 1;
      next = 5;
    })

-- `get_child` stores, and then branches (sections 4.6 and 4.7)
abbrev pub StoresBeforeBranches : Type 0
StoresBeforeBranches =
    read 3 (0x92 ∷ 9 ∷ 0x11 ∷ 0xc1 ∷ [])
    ≡ Ok (record {
      opcode = opcode.ObjectQuestion GetChild;
      operands = Small 9 ∷ [];
      store = Some 0x11;
      branch = Some (record { on = true; target = ReturnTrue });
      text = None;
      next = 4;
    })

-- bit 7 of a branch is its sense; bit 6 says that its offset has the other 6 bits, which have no sign; from the
-- address after it the branch goes as far as the offset says, less 2 (section 4.7)
abbrev pub ShortBranches : Type 0
ShortBranches =
    (read 5 (0x90 ∷ 1 ∷ 0xc5 ∷ 0 ∷ 0 ∷ 0 ∷ 0 ∷ []) ≡ branching (opcode.Comparison Jz) (Small 1 ∷ []) true (At 6) 3)
    × (read 5 (0x90 ∷ 1 ∷ 0x45 ∷ 0 ∷ 0 ∷ 0 ∷ 0 ∷ []) ≡ branching (opcode.Comparison Jz) (Small 1 ∷ []) false (At 6) 3)
    × (read 5 (0x90 ∷ 1 ∷ 0xff ∷ []) ≡ branching (opcode.Comparison Jz) (Small 1 ∷ []) true (Past 64) 3)
    × (read 5 (0x90 ∷ 1 ∷ 0xc0 ∷ []) ≡ branching (opcode.Comparison Jz) (Small 1 ∷ []) true ReturnFalse 3)
    × (read 5 (0x90 ∷ 1 ∷ 0x41 ∷ []) ≡ branching (opcode.Comparison Jz) (Small 1 ∷ []) false ReturnTrue 3)

-- without bit 6 the offset has 14 bits in two bytes, high byte first, and a sign (section 4.7)
abbrev pub LongBranches : Type 0
LongBranches =
    (read 5 (0x90 ∷ 1 ∷ 0x80 ∷ 5 ∷ 0 ∷ 0 ∷ 0 ∷ 0 ∷ []) ≡ branching (opcode.Comparison Jz) (Small 1 ∷ []) true (At 7) 4)
    × (read 5 (0x90 ∷ 1 ∷ 0x3f ∷ 0xff ∷ []) ≡ branching (opcode.Comparison Jz) (Small 1 ∷ []) false (At 1) 4)
    × (read 5 (0x90 ∷ 1 ∷ 0x81 ∷ 0x02 ∷ []) ≡ branching (opcode.Comparison Jz) (Small 1 ∷ []) true (Past 260) 4)
    × (read 5 (0x90 ∷ 1 ∷ 0x00 ∷ 0x01 ∷ []) ≡ branching (opcode.Comparison Jz) (Small 1 ∷ []) false ReturnTrue 4)

-- an unknown opcode goes before missing bytes, and these before missing operands, a choice of zkit (section 4)
abbrev pub RefusalsInOrder : Type 0
RefusalsInOrder =
    (read 5 (0x15 ∷ 7 ∷ 2 ∷ []) ≡ Err CodePastEnd)
    × (read 5 [] ≡ Err CodePastEnd)
    × (read 5 (0x1f ∷ []) ≡ Err BadOpcode)
    × (read 5 (0xc1 ∷ 0x7f ∷ 1 ∷ 0x40 ∷ []) ≡ Err MissingOperand)
    × (read 5 (0xc1 ∷ 0x7f ∷ 1 ∷ []) ≡ Err CodePastEnd)
    × (read 5 (0xb2 ∷ 0x18 ∷ 0xe8 ∷ []) ≡ Err CodePastEnd)

-- ---- targets (sections 4.7.1, 4.7.2 and 15, `jump`)

-- offset 0 returns false and 1 true; of 14 bits 0x1fff is the greatest, and 0x2000 is -8192 (sections 4.7.1 and
-- 4.7.2)
abbrev pub BranchesLead : Type 0
BranchesLead =
    (branch_target 100 50 0 ≡ ReturnFalse)
    × (branch_target 100 50 1 ≡ ReturnTrue)
    × (branch_target 100 50 2 ≡ At 50)
    × (branch_target 9000 50 0x1fff ≡ At 8239)
    × (branch_target 9000 8300 0x2000 ≡ At 106)
    × (branch_target 100 50 0x3fff ≡ At 47)

-- inside the story up to its last byte, past it from its length on, and below it (section 4.7.2)
abbrev pub BranchesLeaveTheStory : Type 0
BranchesLeaveTheStory =
    (branch_target 100 50 51 ≡ At 99) × (branch_target 100 50 52 ≡ Past 100) × (branch_target 100 10 0x3ff0 ≡ Below 8)

-- the offset of `jump` has 16 bits and a sign, and 0 and 1 are offsets as others (section 15, `jump`)
abbrev pub JumpsLead : Type 0
JumpsLead =
    (jump_target 100 50 0 ≡ At 48)
    × (jump_target 100 50 1 ≡ At 49)
    × (jump_target 100 50 65535 ≡ At 47)
    × (jump_target 40000 50 32767 ≡ At 32815)
    × (jump_target 40000 33000 32768 ≡ At 230)

-- ---- opcodes by version (section 14)

-- a line of a table: the opcode, its least operands, and what follows
abbrev pub listed : Opcode → ℕ → Follows → Option OpcodeRow
listed code least follows = Some (record { opcode = code; least = least; follows = follows })

-- two-operand opcodes, 2OP: all numbers in version 3, and those that differ in versions 4, 5 and 8 (section 14)
abbrev pub TwoOperandRows : Type 0
TwoOperandRows =
    (map (two_operand 3) (0 ∷ 1 ∷ 2 ∷ 3 ∷ 4 ∷ 5 ∷ 6 ∷ 7 ∷ 8 ∷ 9 ∷ 10 ∷ 11 ∷ 12 ∷ 13 ∷ 14 ∷ 15 ∷ 16 ∷ 17 ∷ 18 ∷ 19
    ∷ 20 ∷ 21 ∷ 22 ∷ 23
    ∷ 24 ∷ 25 ∷ 26 ∷ 27 ∷ 28 ∷ 29 ∷ 30 ∷ 31 ∷ [])
    ≡ None ∷ listed (opcode.Comparison Je) 2 Branches ∷ listed (opcode.Comparison Jl) 2 Branches
    ∷ listed (opcode.Comparison Jg) 2 Branches ∷ listed (opcode.Assignment DecChk) 2 Branches
    ∷ listed (opcode.Assignment IncChk) 2 Branches ∷ listed (opcode.ObjectQuestion Jin) 2 Branches
    ∷ listed (opcode.Comparison Test) 2 Branches ∷ listed (opcode.Arithmetic Or) 2 Stores
    ∷ listed (opcode.Arithmetic And) 2 Stores ∷ listed (opcode.ObjectQuestion TestAttr) 2 Branches
    ∷ listed (opcode.ObjectChange SetAttr) 2 Nothing ∷ listed (opcode.ObjectChange ClearAttr) 2 Nothing
    ∷ listed (opcode.Assignment Store) 2 Nothing ∷ listed (opcode.ObjectChange InsertObj) 2 Nothing
    ∷ listed (opcode.Array Loadw) 2 Stores ∷ listed (opcode.Array Loadb) 2 Stores
    ∷ listed (opcode.ObjectQuestion GetProp) 2 Stores ∷ listed (opcode.ObjectQuestion GetPropAddr) 2 Stores
    ∷ listed (opcode.ObjectQuestion GetNextProp) 2 Stores ∷ listed (opcode.Arithmetic Add) 2 Stores
    ∷ listed (opcode.Arithmetic Sub) 2 Stores ∷ listed (opcode.Arithmetic Mul) 2 Stores
    ∷ listed (opcode.Arithmetic Div) 2 Stores ∷ listed (opcode.Arithmetic Mod) 2 Stores ∷ None ∷ None ∷ None
    ∷ None ∷ None ∷ None ∷ None ∷ [])
    × (map (two_operand 4) (25 ∷ 26 ∷ 27 ∷ 28 ∷ [])
    ≡ listed (opcode.Call Call2s) 2 Stores ∷ None ∷ None ∷ None ∷ [])
    × (map (two_operand 5) (25 ∷ 26 ∷ 27 ∷ 28 ∷ [])
    ≡ listed (opcode.Call Call2s) 2 Stores ∷ listed (opcode.Call Call2n) 2 Nothing
    ∷ listed (opcode.Idle SetColour) 2 Nothing ∷ listed (opcode.Routine Throw) 2 Nothing ∷ [])
    × (map (two_operand 8) (25 ∷ 26 ∷ 27 ∷ 28 ∷ [])
    ≡ listed (opcode.Call Call2s) 2 Stores ∷ listed (opcode.Call Call2n) 2 Nothing
    ∷ listed (opcode.Idle SetColour) 2 Nothing ∷ listed (opcode.Routine Throw) 2 Nothing ∷ [])

-- one-operand opcodes, 1OP (section 14)
abbrev pub OneOperandRows : Type 0
OneOperandRows =
    (map (one_operand 3) (0 ∷ 1 ∷ 2 ∷ 3 ∷ 4 ∷ 5 ∷ 6 ∷ 7 ∷ 8 ∷ 9 ∷ 10 ∷ 11 ∷ 12 ∷ 13 ∷ 14 ∷ 15 ∷ [])
    ≡ listed (opcode.Comparison Jz) 1 Branches ∷ listed (opcode.ObjectQuestion GetSibling) 1 StoresBranches
    ∷ listed (opcode.ObjectQuestion GetChild) 1 StoresBranches ∷ listed (opcode.ObjectQuestion GetParent) 1 Stores
    ∷ listed (opcode.ObjectQuestion GetPropLen) 1 Stores ∷ listed (opcode.Assignment Inc) 1 Nothing
    ∷ listed (opcode.Assignment Dec) 1 Nothing ∷ listed (opcode.Printing PrintAddr) 1 Nothing ∷ None
    ∷ listed (opcode.ObjectChange RemoveObj) 1 Nothing ∷ listed (opcode.Printing PrintObj) 1 Nothing
    ∷ listed (opcode.Routine Ret) 1 Nothing ∷ listed (opcode.Control Jump) 1 Nothing
    ∷ listed (opcode.Printing PrintPaddr) 1 Nothing ∷ listed (opcode.Assignment Load) 1 Stores
    ∷ listed (opcode.Arithmetic Not) 1 Stores ∷ [])
    × (map (one_operand 4) (8 ∷ 15 ∷ [])
    ≡ listed (opcode.Call Call1s) 1 Stores ∷ listed (opcode.Arithmetic Not) 1 Stores ∷ [])
    × (map (one_operand 5) (8 ∷ 15 ∷ [])
    ≡ listed (opcode.Call Call1s) 1 Stores ∷ listed (opcode.Call Call1n) 1 Nothing ∷ [])
    × (map (one_operand 8) (8 ∷ 15 ∷ [])
    ≡ listed (opcode.Call Call1s) 1 Stores ∷ listed (opcode.Call Call1n) 1 Nothing ∷ [])

-- zero-operand opcodes, 0OP: `save` and `restore` branch in version 3, store in 4 and are extended opcodes from 5 on
-- (section 14)
abbrev pub ZeroOperandRows : Type 0
ZeroOperandRows =
    (map (zero_operand 3) (0 ∷ 1 ∷ 2 ∷ 3 ∷ 4 ∷ 5 ∷ 6 ∷ 7 ∷ 8 ∷ 9 ∷ 10 ∷ 11 ∷ 12 ∷ 13 ∷ 14 ∷ 15 ∷ [])
    ≡ listed (opcode.Routine Rtrue) 0 Nothing ∷ listed (opcode.Routine Rfalse) 0 Nothing
    ∷ listed (opcode.Printing Print) 0 Text ∷ listed (opcode.Printing PrintRet) 0 Text
    ∷ listed (opcode.Idle Nop) 0 Nothing ∷ listed (opcode.Saving SaveBranch) 0 Branches
    ∷ listed (opcode.Saving RestoreBranch) 0 Branches ∷ listed (opcode.Saving Restart) 0 Nothing
    ∷ listed (opcode.Routine RetPopped) 0 Nothing ∷ listed (opcode.Assignment Pop) 0 Nothing
    ∷ listed (opcode.Control Quit) 0 Nothing ∷ listed (opcode.Printing NewLine) 0 Nothing
    ∷ listed (opcode.Window ShowStatus) 0 Nothing ∷ listed (opcode.Saving Verify) 0 Branches ∷ None ∷ None ∷ [])
    × (map (zero_operand 4) (5 ∷ 6 ∷ 9 ∷ 15 ∷ [])
    ≡ listed (opcode.Saving SaveStore) 0 Stores ∷ listed (opcode.Saving RestoreStore) 0 Stores
    ∷ listed (opcode.Assignment Pop) 0 Nothing ∷ None ∷ [])
    × (map (zero_operand 5) (5 ∷ 6 ∷ 9 ∷ 15 ∷ [])
    ≡ None ∷ None ∷ listed (opcode.Routine Catch) 0 Stores ∷ listed (opcode.Idle Piracy) 0 Branches ∷ [])
    × (map (zero_operand 8) (5 ∷ 6 ∷ 9 ∷ 15 ∷ [])
    ≡ None ∷ None ∷ listed (opcode.Routine Catch) 0 Stores ∷ listed (opcode.Idle Piracy) 0 Branches ∷ [])

-- variable-operand opcodes, VAR (section 14)
abbrev pub VariableOperandRows : Type 0
VariableOperandRows =
    (map (variable_operand 3) (0 ∷ 1 ∷ 2 ∷ 3 ∷ 4 ∷ 5 ∷ 6 ∷ 7 ∷ 8 ∷ 9 ∷ 10 ∷ 11 ∷ 12 ∷ 13 ∷ 14 ∷ 15 ∷ 16 ∷ 17 ∷ 18
    ∷ 19 ∷ 20 ∷ 21 ∷ 22 ∷ 23
    ∷ 24 ∷ 25 ∷ 26 ∷ 27 ∷ 28 ∷ 29 ∷ 30 ∷ 31 ∷ [])
    ≡ listed (opcode.Call CallVs) 1 Stores ∷ listed (opcode.Array Storew) 3 Nothing
    ∷ listed (opcode.Array Storeb) 3 Nothing ∷ listed (opcode.ObjectChange PutProp) 3 Nothing
    ∷ listed (opcode.Reading Sread) 2 Nothing ∷ listed (opcode.Printing PrintChar) 1 Nothing
    ∷ listed (opcode.Printing PrintNum) 1 Nothing ∷ listed opcode.Random 1 Stores ∷ listed opcode.Push 1 Nothing
    ∷ listed (opcode.Assignment Pull) 1 Nothing ∷ listed (opcode.Window SplitWindow) 1 Nothing
    ∷ listed (opcode.Window SetWindow) 1 Nothing ∷ None ∷ None ∷ None ∷ None ∷ None ∷ None ∷ None
    ∷ listed (opcode.Stream OutputStream) 1 Nothing ∷ listed (opcode.Stream InputStream) 1 Nothing
    ∷ listed (opcode.Window SoundEffect) 0 Nothing ∷ None ∷ None ∷ None ∷ None ∷ None ∷ None ∷ None ∷ None ∷ None
    ∷ None ∷ [])
    × (map (variable_operand 4) (4 ∷ 12 ∷ 13 ∷ 14 ∷ 15 ∷ 16 ∷ 17 ∷ 18 ∷ 22 ∷ 23 ∷ 24 ∷ 25 ∷ 26 ∷ 27 ∷ 28 ∷ 29
    ∷ 30 ∷ 31 ∷ [])
    ≡ listed (opcode.Reading Sread) 2 Nothing ∷ listed (opcode.Call CallVs2) 1 Stores
    ∷ listed (opcode.Window EraseWindow) 1 Nothing ∷ listed (opcode.Window EraseLine) 1 Nothing
    ∷ listed (opcode.Window SetCursor) 2 Nothing ∷ listed (opcode.Window GetCursor) 1 Nothing
    ∷ listed (opcode.Window SetTextStyle) 1 Nothing ∷ listed (opcode.Idle BufferMode) 1 Nothing
    ∷ listed (opcode.Reading ReadChar) 0 Stores ∷ listed (opcode.Table ScanTable) 3 StoresBranches ∷ None ∷ None
    ∷ None ∷ None ∷ None ∷ None ∷ None ∷ None ∷ [])
    × (map (variable_operand 5) (4 ∷ 12 ∷ 13 ∷ 14 ∷ 15 ∷ 16 ∷ 17 ∷ 18 ∷ 22 ∷ 23 ∷ 24 ∷ 25 ∷ 26 ∷ 27 ∷ 28 ∷ 29
    ∷ 30 ∷ 31 ∷ [])
    ≡ listed (opcode.Reading Aread) 1 Stores ∷ listed (opcode.Call CallVs2) 1 Stores
    ∷ listed (opcode.Window EraseWindow) 1 Nothing ∷ listed (opcode.Window EraseLine) 1 Nothing
    ∷ listed (opcode.Window SetCursor) 2 Nothing ∷ listed (opcode.Window GetCursor) 1 Nothing
    ∷ listed (opcode.Window SetTextStyle) 1 Nothing ∷ listed (opcode.Idle BufferMode) 1 Nothing
    ∷ listed (opcode.Reading ReadChar) 0 Stores ∷ listed (opcode.Table ScanTable) 3 StoresBranches
    ∷ listed (opcode.Arithmetic Not) 1 Stores ∷ listed (opcode.Call CallVn) 1 Nothing
    ∷ listed (opcode.Call CallVn2) 1 Nothing ∷ listed (opcode.Words Tokenise) 2 Nothing
    ∷ listed (opcode.Words EncodeText) 4 Nothing ∷ listed (opcode.Table CopyTable) 3 Nothing
    ∷ listed (opcode.Table PrintTable) 2 Nothing ∷ listed (opcode.Routine CheckArgCount) 1 Branches ∷ [])
    × (map (variable_operand 8) (4 ∷ 12 ∷ 13 ∷ 14 ∷ 15 ∷ 16 ∷ 17 ∷ 18 ∷ 22 ∷ 23 ∷ 24 ∷ 25 ∷ 26 ∷ 27 ∷ 28 ∷ 29
    ∷ 30 ∷ 31 ∷ [])
    ≡ listed (opcode.Reading Aread) 1 Stores ∷ listed (opcode.Call CallVs2) 1 Stores
    ∷ listed (opcode.Window EraseWindow) 1 Nothing ∷ listed (opcode.Window EraseLine) 1 Nothing
    ∷ listed (opcode.Window SetCursor) 2 Nothing ∷ listed (opcode.Window GetCursor) 1 Nothing
    ∷ listed (opcode.Window SetTextStyle) 1 Nothing ∷ listed (opcode.Idle BufferMode) 1 Nothing
    ∷ listed (opcode.Reading ReadChar) 0 Stores ∷ listed (opcode.Table ScanTable) 3 StoresBranches
    ∷ listed (opcode.Arithmetic Not) 1 Stores ∷ listed (opcode.Call CallVn) 1 Nothing
    ∷ listed (opcode.Call CallVn2) 1 Nothing ∷ listed (opcode.Words Tokenise) 2 Nothing
    ∷ listed (opcode.Words EncodeText) 4 Nothing ∷ listed (opcode.Table CopyTable) 3 Nothing
    ∷ listed (opcode.Table PrintTable) 2 Nothing ∷ listed (opcode.Routine CheckArgCount) 1 Branches ∷ [])

-- extended opcodes, EXT: what version 6 alone has is none, and neither are those from 29 on, a choice of zkit
-- (section 14)
abbrev pub ExtendedRows : Type 0
ExtendedRows =
    (map (extended 5) (0 ∷ 1 ∷ 2 ∷ 3 ∷ 4 ∷ 5 ∷ 6 ∷ 7 ∷ 8 ∷ 9 ∷ 10 ∷ 11 ∷ 12 ∷ 13 ∷ 14 ∷ 15 ∷ 16 ∷ 17 ∷ 18 ∷ 19
    ∷ 20 ∷ 21 ∷ 22 ∷ 23
    ∷ 24 ∷ 25 ∷ 26 ∷ 27 ∷ 28 ∷ 29 ∷ [])
    ≡ listed (opcode.Saving Save) 0 Stores ∷ listed (opcode.Saving Restore) 0 Stores
    ∷ listed (opcode.Arithmetic LogShift) 2 Stores ∷ listed (opcode.Arithmetic ArtShift) 2 Stores
    ∷ listed (opcode.Window SetFont) 1 Stores ∷ None ∷ None ∷ None ∷ None ∷ listed (opcode.Saving SaveUndo) 0 Stores
    ∷ listed (opcode.Saving RestoreUndo) 0 Stores ∷ listed (opcode.Printing PrintUnicode) 1 Nothing
    ∷ listed (opcode.Idle CheckUnicode) 1 Stores ∷ listed (opcode.Idle SetTrueColour) 2 Nothing ∷ None ∷ None
    ∷ None ∷ None ∷ None ∷ None ∷ None ∷ None ∷ None ∷ None ∷ None ∷ None ∷ None ∷ None ∷ None ∷ None ∷ [])
    × (map (extended 8) (0 ∷ 1 ∷ 2 ∷ 3 ∷ 4 ∷ 9 ∷ 10 ∷ 11 ∷ 12 ∷ 13 ∷ [])
    ≡ listed (opcode.Saving Save) 0 Stores ∷ listed (opcode.Saving Restore) 0 Stores
    ∷ listed (opcode.Arithmetic LogShift) 2 Stores ∷ listed (opcode.Arithmetic ArtShift) 2 Stores
    ∷ listed (opcode.Window SetFont) 1 Stores ∷ listed (opcode.Saving SaveUndo) 0 Stores
    ∷ listed (opcode.Saving RestoreUndo) 0 Stores ∷ listed (opcode.Printing PrintUnicode) 1 Nothing
    ∷ listed (opcode.Idle CheckUnicode) 1 Stores ∷ listed (opcode.Idle SetTrueColour) 2 Nothing ∷ [])

-- `call` is named `call_vs` from version 4 on (section 14)
abbrev pub NamesByVersion : Type 0
NamesByVersion = (name_of 3 (opcode.Call CallVs) ≡ codes "call") × (name_of 5 (opcode.Call CallVs) ≡ codes "call_vs")
