-- Worked examples of this crate's definitions. Their values come from the Standard by hand, and no definition made
-- them. A word from 32768 on is negative: 65535 is -1 (Standard, section 2.2).
use Rattle.std.specs.Prelude.{◌≡◌, ℕ, List, [], ◌∷◌, Option, Some, None, Ok, Err, true, false, ◌+◌, ◌*◌, ◌-◌, ◌/◌, ◌%◌}
use Rattle.std.specs.Prelude.{◌<◌}
use Rattle.zk_mem.specs.declared.fault.Fault.TheVariants.{DivisionByZero, StackEmpty, NoSuchLocal}
use Rattle.zk_mem.specs.Fresh.{plain_setup}
use Rattle.zk_mem.specs.Map.{MemoryMap}
use Rattle.zk_state.specs.Frames.{Frame}
use Rattle.zk_code.specs.declared.branch.Branch.{Branch}
use Rattle.zk_code.specs.declared.instr.Instr.{Instr}
use Rattle.zk_code.specs.declared.opcode.Opcode.{Opcode}
use Rattle.zk_code.specs.declared.opcode.Arithmetic.TheVariants.{Or, And, Not, Add, Sub, Mul, Div, Mod, LogShift}
use Rattle.zk_code.specs.declared.opcode.Arithmetic.TheVariants.{ArtShift}
use Rattle.zk_code.specs.declared.opcode.Array.TheVariants.{Loadw, Loadb, Storew, Storeb}
use Rattle.zk_code.specs.declared.opcode.Assignment.TheVariants.{Store, Load, Inc, Dec, IncChk, DecChk, Pull, Pop}
use Rattle.zk_code.specs.declared.opcode.Comparison.TheVariants.{Je, Jl, Jg, Jz, Test}
use Rattle.zk_code.specs.declared.operands.Operand.{Operand}
use Rattle.zk_code.specs.declared.operands.Operand.TheVariants.{Large, Small, Variable}
use Rattle.zk_step.specs.declared.state.game_state.GameState.{GameState}
use Rattle.zk_step.specs.declared.state.game_state.View.TheVariants.{Plain}
use Rattle.zk_step.specs.Streams.{first_streams}
use Rattle.zk_term.specs.Windows.{Windows, first_windows}
use Rattle.zk_step.specs.Arithmetic.{arithmetic}
use Rattle.zk_step.specs.Arrays.{array_accessed}
use Rattle.zk_step.specs.Assignment.{assignment, pushing}
use Rattle.zk_step.specs.Comparison.{comparison}
use Rattle.zk_step.specs.Endings.{goes_on, yields, yields_truth, yields_nothing}
use Rattle.zk_step.specs.Variables.{global_address, named_read, named_written, variable_read, variable_written}
use Rattle.zk_step.specs.Variables.{indirect_read, indirect_written, operands_read}

-- ---- what the examples work on

-- the windows at the start, on a screen of 80 columns
abbrev pub first_here : Windows
first_here = first_windows 80

-- memory of a version with these bytes, all of them dynamic; its header has the global variables at 4
abbrev pub memory_of : ℕ → List ℕ → MemoryMap
memory_of version bytes = record {
  version = version;
  static_base = 999;
  bytes = bytes;
  file = 0 ∷ 0 ∷ 0 ∷ 0 ∷ 0 ∷ 0 ∷ 0 ∷ 0 ∷ 0 ∷ 0 ∷ 0 ∷ 0 ∷ 0 ∷ 4 ∷ [];
  setup = plain_setup 0;
}

-- sixteen bytes: 0xa0 at address 0, 0xa1 at address 1, up to 0xaf at address 15
abbrev pub sixteen : List ℕ
sixteen =
    0xa0 ∷ 0xa1 ∷ 0xa2 ∷ 0xa3 ∷ 0xa4 ∷ 0xa5 ∷ 0xa6 ∷ 0xa7
    ∷ 0xa8 ∷ 0xa9 ∷ 0xaa ∷ 0xab ∷ 0xac ∷ 0xad ∷ 0xae ∷ 0xaf ∷ []

-- a routine that was given two arguments, returns to address 70, and gives its result to a variable
abbrev pub routine_with : List ℕ → List ℕ → Option ℕ → Frame
routine_with locals words result = record { locals = locals; words = words; pc = 70; result = result; supplied = 2 }

-- the routine that called it, whose own caller goes on at address 80 and takes the result into local variable 2
abbrev pub caller_with : List ℕ → List ℕ → Frame
caller_with locals words = record { locals = locals; words = words; pc = 80; result = Some 2; supplied = 0 }

-- a memory, a routine and the routines that wait for it, within 5 frames and 20 words
abbrev pub working : MemoryMap → Frame → List Frame → GameState
working memory current callers = record {
  memory = memory;
  frames = record { current = current; callers = callers; most_frames = 5; most_words = 20 };
  streams = first_streams;
  windows = first_here;
  generators = record { free = 1; predictable = None };
  at_line_start = true;
  view = Plain;
}

-- a routine with these local variables and these words on its evaluation stack, the newest last; its caller has the
-- local variables 61 and 62 and the word 63
abbrev pub in_routine : List ℕ → List ℕ → GameState
in_routine locals words =
    working (memory_of 5 sixteen) (routine_with locals words (Some 1)) (caller_with (61 ∷ 62 ∷ []) (63 ∷ []) ∷ [])

-- an instruction that ends right before address 9
abbrev pub instruction : Opcode → List Operand → Option ℕ → Option Branch → Instr
instruction code operands store branch =
    record { opcode = code; operands = operands; store = store; branch = branch; text = None; next = 9 }

-- ---- arithmetic and logic (sections 2.3 and 15)

-- a sum has 16 bits: -1 + 2 is 1 (section 15, `add`)
abbrev pub AddsModulo : Type 0
AddsModulo = arithmetic Add 65535 2 ≡ Ok 1

-- 5 - 3 is 2, and 3 - 5 is -2 (section 15, `sub`)
abbrev pub SubtractsTheSecond : Type 0
SubtractsTheSecond = (arithmetic Sub 5 3 ≡ Ok 2) × (arithmetic Sub 3 5 ≡ Ok 65534)

-- 300 * 300 is 90000, which is 24464 in 16 bits (section 15, `mul`)
abbrev pub MultipliesModulo : Type 0
MultipliesModulo = arithmetic Mul 300 300 ≡ Ok 24464

-- -11 / 2 is -5, 11 / -2 is -5, and -11 / -2 is 5 (section 15, `div`)
abbrev pub DividesTowardZero : Type 0
DividesTowardZero =
    (arithmetic Div 65525 2 ≡ Ok 65531)
    × (arithmetic Div 11 65534 ≡ Ok 65531)
    × (arithmetic Div 65525 65534 ≡ Ok 5)

-- the remainder of -13 by 5 is -3, of 13 by -5 it is 3, and of -13 by -5 it is -3 (section 15, `mod`)
abbrev pub RemainderHasTheSignOfTheDividend : Type 0
RemainderHasTheSignOfTheDividend =
    (arithmetic Mod 65523 5 ≡ Ok 65533)
    × (arithmetic Mod 13 65531 ≡ Ok 3)
    × (arithmetic Mod 65523 65531 ≡ Ok 65533)

-- -32768 / -1 is -32768, a choice of zkit (section 15, `div`)
abbrev pub LeastByMinusOneStays : Type 0
LeastByMinusOneStays = arithmetic Div 32768 65535 ≡ Ok 32768

-- a division by 0 is a fault (section 2.3.1)
abbrev pub DivisionByZeroIsFault : Type 0
DivisionByZeroIsFault =
    (arithmetic Div 5 0 ≡ Err DivisionByZero) × (arithmetic Mod 5 0 ≡ Err DivisionByZero)

-- bit by bit: 12 or 10 is 14, 12 and 10 is 8, and not 255 is 65280 (section 15, `or`, `and`, `not`)
abbrev pub LogicIsBitByBit : Type 0
LogicIsBitByBit =
    (arithmetic Or 12 10 ≡ Ok 14)
    × (arithmetic And 12 10 ≡ Ok 8)
    × (arithmetic Not 255 0 ≡ Ok 65280)

-- positive places are to the left: 0x1234 by 4 is 0x2340 (section 15, `log_shift`)
abbrev pub ShiftsLeft : Type 0
ShiftsLeft =
    (arithmetic LogShift 0x1234 4 ≡ Ok 0x2340) × (arithmetic ArtShift 0x1234 4 ≡ Ok 0x2340)

-- -4 places are 4 to the right: 0xfe00 becomes 0x0fe0 by log_shift, and 0xffe0 by art_shift; 0x1234 becomes 0x0123
-- (section 15, `art_shift`)
abbrev pub ShiftsRight : Type 0
ShiftsRight =
    (arithmetic LogShift 0xfe00 65532 ≡ Ok 0x0fe0)
    × (arithmetic ArtShift 0xfe00 65532 ≡ Ok 0xffe0)
    × (arithmetic ArtShift 0x1234 65532 ≡ Ok 0x0123)

-- for all words: what was added is taken away by `sub` (section 15, `sub`)
abbrev pub SubUndoesAdd : Type 0
SubUndoesAdd = (x y : ℕ) → x < 65536 → y < 65536 → arithmetic Sub ((x + y) % 65536) y ≡ Ok x

-- for all words: a place to the right halves, and one to the left doubles in 16 bits (section 15, `log_shift`)
abbrev pub ShiftsHalveAndDouble : Type 0
ShiftsHalveAndDouble =
    (x : ℕ) → (arithmetic LogShift x 65535 ≡ Ok (x / 2)) × (arithmetic LogShift x 1 ≡ Ok ((x * 2) % 65536))

-- of words below 32768 the quotient and the remainder are those of natural numbers (section 15, `div`, `mod`)
abbrev pub DividesNaturals : Type 0
DividesNaturals =
    (x y : ℕ) → x < 32768 → 0 < y → y < 32768 → (arithmetic Div x y ≡ Ok (x / y)) × (arithmetic Mod x y ≡ Ok (x % y))

-- for all words: what is not, twice, is the word (section 15, `not`)
abbrev pub NotTwiceStays : Type 0
NotTwiceStays = (x : ℕ) → x < 65536 → arithmetic Not (65535 - x) 0 ≡ Ok x

-- ---- comparisons (sections 2.2 and 15)

-- one of the other operands is the first: the fourth is, none is, and two that are the same but not the first
-- (section 15, `je`)
abbrev pub EqualsAnother : Type 0
EqualsAnother =
    (comparison Je (7 ∷ 1 ∷ 2 ∷ 7 ∷ []) ≡ true)
    × (comparison Je (7 ∷ 7 ∷ []) ≡ true)
    × (comparison Je (7 ∷ 1 ∷ 2 ∷ 3 ∷ []) ≡ false)
    × (comparison Je (7 ∷ 1 ∷ 1 ∷ []) ≡ false)

-- -1 is less than 1, 1 is not less than -1, 5 is not less than 5, and -32768 is less than 32767 (sections 2.2 and 15,
-- `jl`)
abbrev pub LessIsSigned : Type 0
LessIsSigned =
    (comparison Jl (65535 ∷ 1 ∷ []) ≡ true)
    × (comparison Jl (1 ∷ 65535 ∷ []) ≡ false)
    × (comparison Jl (5 ∷ 5 ∷ []) ≡ false)
    × (comparison Jl (32768 ∷ 32767 ∷ []) ≡ true)

-- 32767 is greater than -32768, which is not greater than 32767; 5 is not greater than 5 (sections 2.2 and 15, `jg`)
abbrev pub GreaterIsSigned : Type 0
GreaterIsSigned =
    (comparison Jg (32767 ∷ 32768 ∷ []) ≡ true)
    × (comparison Jg (32768 ∷ 32767 ∷ []) ≡ false)
    × (comparison Jg (5 ∷ 5 ∷ []) ≡ false)

-- for all words: x is greater than y where y is less than x (section 15, `jg`)
abbrev pub GreaterIsLessExchanged : Type 0
GreaterIsLessExchanged = (x y : ℕ) → comparison Jg (x ∷ y ∷ []) ≡ comparison Jl (y ∷ x ∷ [])

-- 0 alone is zero: 256, whose low byte is 0, is not (section 15, `jz`)
abbrev pub ZeroIsZeroAlone : Type 0
ZeroIsZeroAlone = (comparison Jz (0 ∷ []) ≡ true) × (comparison Jz (256 ∷ []) ≡ false)

-- all bits of the second are in the first: those of 6 are in 14, those of 14 not in 6 (section 15, `test`)
abbrev pub TestsAllBits : Type 0
TestsAllBits = (comparison Test (14 ∷ 6 ∷ []) ≡ true) × (comparison Test (6 ∷ 14 ∷ []) ≡ false)

-- ---- arrays (section 15): memory has 0xa0 at address 0 up to 0xaf at address 15

-- word 3 of the array at 4 stands at 10 and 11, high byte first (section 15, `loadw`)
abbrev pub WordsAreLoaded : Type 0
WordsAreLoaded = array_accessed Loadw (in_routine [] []) 4 3 0 ≡ Ok (in_routine [] [], yields 0xaaab)

-- byte 3 of the array at 4 stands at 7 (section 15, `loadb`)
abbrev pub BytesAreLoaded : Type 0
BytesAreLoaded = array_accessed Loadb (in_routine [] []) 4 3 0 ≡ Ok (in_routine [] [], yields 0xa7)

-- an address is a sum of 16 bits, a choice of zkit: word 3 of the array at 65534 stands at 4, and byte 3 at 1
-- (section 15, `loadw`)
abbrev pub AddressesWrap : Type 0
AddressesWrap =
    (array_accessed Loadw (in_routine [] []) 65534 3 0 ≡ Ok (in_routine [] [], yields 0xa4a5))
    × (array_accessed Loadb (in_routine [] []) 65534 3 0 ≡ Ok (in_routine [] [], yields 0xa1))

-- the game state of the examples of stores: version 5, with these bytes
abbrev pub with_bytes : List ℕ → GameState
with_bytes bytes = working (memory_of 5 bytes) (routine_with [] [] None) []

-- word 1 of the array at 2 stands at 4 and 5, high byte first (section 15, `storew`)
abbrev pub WordsAreStored : Type 0
WordsAreStored =
    array_accessed Storew (with_bytes (0 ∷ 1 ∷ 2 ∷ 3 ∷ 4 ∷ 5 ∷ 6 ∷ [])) 2 1 0x1234
    ≡ Ok (with_bytes (0 ∷ 1 ∷ 2 ∷ 3 ∷ 0x12 ∷ 0x34 ∷ 6 ∷ []), yields_nothing)

-- byte 1 of the array at 2 stands at 3, and gets the low byte (section 15, `storeb`)
abbrev pub LowBytesAreStored : Type 0
LowBytesAreStored =
    array_accessed Storeb (with_bytes (0 ∷ 1 ∷ 2 ∷ 3 ∷ 4 ∷ 5 ∷ 6 ∷ [])) 2 1 0x1234
    ≡ Ok (with_bytes (0 ∷ 1 ∷ 2 ∷ 0x34 ∷ 4 ∷ 5 ∷ 6 ∷ []), yields_nothing)

-- ---- variables (sections 4.2 and 6)

-- variable 1 is the first local variable, 3 the third; variable 4 of a routine with three is none (section 4.2.2)
abbrev pub LocalsCountFromOne : Type 0
LocalsCountFromOne =
    (named_read (in_routine (11 ∷ 22 ∷ 33 ∷ []) []) 1 ≡ Ok 11)
    × (named_read (in_routine (11 ∷ 22 ∷ 33 ∷ []) []) 3 ≡ Ok 33)
    × (named_read (in_routine (11 ∷ 22 ∷ 33 ∷ []) []) 4 ≡ Err NoSuchLocal)
    × (named_written (in_routine (11 ∷ 22 ∷ 33 ∷ []) []) 2 9 ≡ Ok (in_routine (11 ∷ 9 ∷ 33 ∷ []) []))

-- variable 16 is the word at the table's address, here 4, variable 17 the next, and 255 the 240th; 15 is none of them
-- (section 6.2)
abbrev pub GlobalsCountFromSixteen : Type 0
GlobalsCountFromSixteen =
    (global_address (memory_of 5 sixteen) 16 ≡ 4)
    × (global_address (memory_of 5 sixteen) 255 ≡ 482)
    × (named_read (in_routine [] []) 16 ≡ Ok 0xa4a5)
    × (named_read (in_routine [] []) 17 ≡ Ok 0xa6a7)
    × (named_read (in_routine [] []) 15 ≡ Err NoSuchLocal)
    × (named_written (with_bytes (0 ∷ 1 ∷ 2 ∷ 3 ∷ 4 ∷ 5 ∷ 6 ∷ 7 ∷ [])) 17 0x1234 ≡ Ok
    (with_bytes (0 ∷ 1 ∷ 2 ∷ 3 ∷ 4 ∷ 5 ∷ 0x12 ∷ 0x34 ∷ [])))

-- variable 0 pulls the newest word of the stack where it is read, and pushes one where it is written (section 6.3)
abbrev pub StackIsPulledAndPushed : Type 0
StackIsPulledAndPushed =
    (variable_read (in_routine [] (44 ∷ 55 ∷ [])) 0 ≡ Ok (in_routine [] (44 ∷ []), 55))
    × (variable_written (in_routine [] (44 ∷ 55 ∷ [])) 0 9 ≡ Ok (in_routine [] (44 ∷ 55 ∷ 9 ∷ [])))
    × (variable_read (in_routine [] []) 0 ≡ Err StackEmpty)
    × (variable_read (in_routine (11 ∷ []) []) 1 ≡ Ok (in_routine (11 ∷ []) [], 11))
    × (variable_written (in_routine (11 ∷ []) []) 1 9 ≡ Ok (in_routine (9 ∷ []) []))

-- where an operand names it, variable 0 is read and written in place; there is no variable 256 (section 6.3.4)
abbrev pub StackIsNamedInPlace : Type 0
StackIsNamedInPlace =
    (indirect_read (in_routine [] (44 ∷ 55 ∷ [])) 0 ≡ Ok 55)
    × (indirect_written (in_routine [] (44 ∷ 55 ∷ [])) 0 9 ≡ Ok (in_routine [] (44 ∷ 9 ∷ [])))
    × (indirect_written (in_routine [] []) 0 9 ≡ Err StackEmpty)
    × (indirect_read (in_routine (11 ∷ []) []) 256 ≡ Err NoSuchLocal)

-- operands are taken first to last: of two pulls the first gets the newest word; constants are what they say (section
-- 4.2)
abbrev pub OperandsAreTakenInOrder : Type 0
OperandsAreTakenInOrder =
    operands_read (in_routine (11 ∷ []) (44 ∷ 55 ∷ [])) (Variable 0 ∷ Small 0 ∷ Variable 0 ∷ Variable 1 ∷ Large 1 ∷ [])
    ≡ Ok (in_routine (11 ∷ []) [], 55 ∷ 0 ∷ 44 ∷ 11 ∷ 1 ∷ [])

-- ---- what is done to variables (sections 6.3 and 15)

-- `store` of local variable 2, and of the newest word in place (section 15, `store`)
abbrev pub Stores : Type 0
Stores =
    (assignment Store (in_routine (11 ∷ 22 ∷ []) []) 2 9 ≡ Ok (in_routine (11 ∷ 9 ∷ []) [], yields_nothing))
    × (assignment Store (in_routine [] (44 ∷ 55 ∷ [])) 0 9 ≡ Ok (in_routine [] (44 ∷ 9 ∷ []), yields_nothing))

-- `load` gives the value of a variable, and leaves the newest word on the stack (section 15, `load`)
abbrev pub Loads : Type 0
Loads =
    (assignment Load (in_routine (11 ∷ 22 ∷ []) []) 2 0 ≡ Ok (in_routine (11 ∷ 22 ∷ []) [], yields 22))
    × (assignment Load (in_routine [] (44 ∷ 55 ∷ [])) 0 0 ≡ Ok (in_routine [] (44 ∷ 55 ∷ []), yields 55))

-- `inc` of 65535 is 0, `dec` of 0 is 65535, and both change the newest word in place (section 15, `inc`, `dec`)
abbrev pub CountsUpAndDown : Type 0
CountsUpAndDown =
    (assignment Inc (in_routine (11 ∷ 65535 ∷ []) []) 2 0 ≡ Ok (in_routine (11 ∷ 0 ∷ []) [], yields_nothing))
    × (assignment Dec (in_routine (0 ∷ 11 ∷ []) []) 1 0 ≡ Ok (in_routine (65535 ∷ 11 ∷ []) [], yields_nothing))
    × (assignment Inc (in_routine [] (44 ∷ 55 ∷ [])) 0 0 ≡ Ok (in_routine [] (44 ∷ 56 ∷ []), yields_nothing))

-- `inc_chk` asks whether the new value is greater, with signs: 6 than 5, not 5 than 5, not -1 than 0 (section 15,
-- `inc_chk`)
abbrev pub ChecksTheIncreased : Type 0
ChecksTheIncreased =
    (assignment IncChk (in_routine (5 ∷ []) []) 1 5 ≡ Ok (in_routine (6 ∷ []) [], yields_truth true))
    × (assignment IncChk (in_routine (4 ∷ []) []) 1 5 ≡ Ok (in_routine (5 ∷ []) [], yields_truth false))
    × (assignment IncChk (in_routine (65534 ∷ []) []) 1 0 ≡ Ok (in_routine (65535 ∷ []) [], yields_truth false))

-- `dec_chk` asks whether the new value is less, with signs: -1 than 0, not 5 than 5 (section 15, `dec_chk`)
abbrev pub ChecksTheDecreased : Type 0
ChecksTheDecreased =
    (assignment DecChk (in_routine (0 ∷ []) []) 1 0 ≡ Ok (in_routine (65535 ∷ []) [], yields_truth true))
    × (assignment DecChk (in_routine (6 ∷ []) []) 1 5 ≡ Ok (in_routine (5 ∷ []) [], yields_truth false))

-- `pull` takes the newest word, and then looks at its variable, a choice of zkit: pulled into the stack, it takes the
-- place of the word below (section 15, `pull`)
abbrev pub PullsBeforeItsVariable : Type 0
PullsBeforeItsVariable =
    (assignment Pull (in_routine (11 ∷ 22 ∷ []) (44 ∷ 55 ∷ [])) 2 0 ≡ Ok
    (in_routine (11 ∷ 55 ∷ []) (44 ∷ []), yields_nothing))
    × (assignment Pull (in_routine [] (44 ∷ 55 ∷ [])) 0 0 ≡ Ok (in_routine [] (55 ∷ []), yields_nothing))
    × (assignment Pull (in_routine [] (55 ∷ [])) 0 0 ≡ Err StackEmpty)
    × (assignment Pull (in_routine [] []) 300 0 ≡ Err StackEmpty)

-- `pop` drops the newest word, and `push` adds one (section 15, `pop`, `push`)
abbrev pub PopsAndPushes : Type 0
PopsAndPushes =
    (assignment Pop (in_routine [] (44 ∷ 55 ∷ [])) 0 0 ≡ Ok (in_routine [] (44 ∷ []), yields_nothing))
    × (pushing (in_routine [] (44 ∷ [])) (9 ∷ 8 ∷ []) ≡ Ok (in_routine [] (44 ∷ 9 ∷ []), goes_on))
