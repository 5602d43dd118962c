-- Worked examples of misuses, by hand from the Standard's sections 4, 6.4.3 and 15.
use Rattle.std.specs.Prelude.{◌≡◌, ℕ, List, [], ◌∷◌, Option, Some, None}
use Rattle.zk_mem.specs.Fresh.{plain_setup}
use Rattle.zk_code.specs.declared.opcode.Array.{Array}
use Rattle.zk_code.specs.declared.opcode.Array.TheVariants.{Loadw, Loadb, Storew, Storeb}
use Rattle.zk_code.specs.declared.opcode.Call.TheVariants.{CallVs, Call1n, CallVn2}
use Rattle.zk_code.specs.declared.opcode.ObjectChange.TheVariants.{InsertObj, RemoveObj}
use Rattle.zk_code.specs.declared.opcode.ObjectQuestion.TheVariants.{Jin}
use Rattle.zk_code.specs.declared.opcode.Opcode.TheVariants as opcode
use Rattle.zk_step.specs.guards.Examples.{memory_of, routine_with, working}
use Rattle.zk_strict.specs.declared.misuse.Extent.{Extent}
use Rattle.zk_strict.specs.declared.misuse.Misuse.{Misuse}
use Rattle.zk_strict.specs.declared.misuse.Misuse.TheVariants.{Read, Written, CallOfZero, IntoItself}
use Rattle.zk_strict.specs.Misuses.{misuse_at, misuse_next, misuse_of}
use Rattle.zk_strict.specs.Texts.{text_next}

abbrev pub extent : ℕ → ℕ → Extent
extent address length = record { address = address; length = length }

-- array 0 has the bytes 100 to 109, array 1 has none, array 2 has 110 to 113, and array 3 the bytes of all and more
abbrev pub arrays : List Extent
arrays = extent 100 10 ∷ extent 90 0 ∷ extent 110 4 ∷ extent 95 50 ∷ []

abbrev pub read : ℕ → ℕ → Option Misuse
read array address = Some (Read (record { array = array; address = address }))

abbrev pub written : ℕ → ℕ → Option Misuse
written array address = Some (Written (record { array = array; address = address }))

-- an opcode on an array, with values that are known
abbrev pub on_array : Array → ℕ → ℕ → Option Misuse
on_array operation array index = misuse_of arrays (opcode.Array operation) (Some array) (Some index)

-- the same, where the only array has the bytes 65530 to 65535
abbrev pub at_the_end : Array → ℕ → ℕ → Option Misuse
at_the_end operation array index =
    misuse_of (extent 65530 6 ∷ []) (opcode.Array operation) (Some array) (Some index)

-- ---- arrays (section 15)

-- the last byte is the one of index 9, also counted from the middle; the byte after it lies outside, though it is one
-- of another array
abbrev pub BytesPastTheEnd : Type 0
BytesPastTheEnd =
    (on_array Loadb 100 0 ≡ None)
    × (on_array Loadb 100 9 ≡ None)
    × (on_array Loadb 100 10 ≡ read 0 110)
    × (on_array Loadb 106 3 ≡ None)
    × (on_array Loadb 106 4 ≡ read 0 110)
    × (on_array Storeb 100 9 ≡ None)
    × (on_array Storeb 100 10 ≡ written 0 110)

-- a word has two bytes, and an index counts words: the last one is that of index 4; one that begins on the last byte
-- ends outside, and so does one that begins after it
abbrev pub WordsPastTheEnd : Type 0
WordsPastTheEnd =
    (on_array Loadw 100 4 ≡ None)
    × (on_array Loadw 100 5 ≡ read 0 110)
    × (on_array Loadw 101 4 ≡ read 0 109)
    × (on_array Loadw 100 9 ≡ read 0 118)
    × (on_array Storew 100 4 ≡ None)
    × (on_array Storew 101 4 ≡ written 0 109)
    × (on_array Storew 100 5 ≡ written 0 110)

-- index -1 is the byte or the word before: outside from the first byte on, and inside from the middle
abbrev pub IndicesBelowZero : Type 0
IndicesBelowZero =
    (on_array Loadb 100 65535 ≡ read 0 99)
    × (on_array Loadw 100 65535 ≡ read 0 98)
    × (on_array Storew 101 65535 ≡ written 0 99)
    × (on_array Loadb 104 65535 ≡ None)
    × (on_array Loadw 104 65535 ≡ None)
    × (on_array Storeb 100 65535 ≡ written 0 99)

-- an address is a sum of 16 bits: after 65535 comes 0, and no word has both
abbrev pub AddressesHave16Bits : Type 0
AddressesHave16Bits =
    (at_the_end Loadb 65530 5 ≡ None)
    × (at_the_end Loadb 65530 6 ≡ read 0 0)
    × (at_the_end Loadw 65530 2 ≡ None)
    × (at_the_end Loadw 65531 2 ≡ read 0 65535)
    × (at_the_end Storew 65530 3 ≡ written 0 0)

-- an address in no array is no misuse, wherever it leads; of two arrays that have it the first counts; and an array
-- without bytes has none
abbrev pub ArraysOfTheFirstOperand : Type 0
ArraysOfTheFirstOperand =
    (on_array Loadb 94 1 ≡ None)
    × (on_array Loadb 94 200 ≡ None)
    × (on_array Loadb 145 0 ≡ None)
    × (on_array Storew 90 0 ≡ None)
    × (on_array Loadb 99 45 ≡ None)
    × (on_array Loadb 99 46 ≡ read 3 145)
    × (on_array Loadb 109 1 ≡ read 0 110)
    × (on_array Loadb 110 3 ≡ None)
    × (on_array Loadb 110 4 ≡ read 2 114)
    × (on_array Storew 112 1 ≡ written 2 114)

-- where a value is not known, nothing is told
abbrev pub UnknownValues : Type 0
UnknownValues =
    (misuse_of arrays (opcode.Array Loadb) (Some 100) None ≡ None)
    × (misuse_of arrays (opcode.Array Storew) None (Some 100) ≡ None)
    × (misuse_of arrays (opcode.Call CallVs) None (Some 0) ≡ None)
    × (misuse_of arrays (opcode.ObjectChange InsertObj) (Some 5) None ≡ None)
    × (misuse_of arrays (opcode.ObjectChange InsertObj) None (Some 5) ≡ None)

-- ---- calls and objects

-- a call of routine 0, whatever its arguments, and of no other (section 6.4.3)
abbrev pub CallsOfZero : Type 0
CallsOfZero =
    (misuse_of arrays (opcode.Call CallVs) (Some 0) (Some 7) ≡ Some CallOfZero)
    × (misuse_of arrays (opcode.Call Call1n) (Some 0) None ≡ Some CallOfZero)
    × (misuse_of arrays (opcode.Call CallVn2) (Some 1) (Some 0) ≡ None)

-- an object is inserted into itself, and not into another; and only inserted
abbrev pub ObjectsIntoThemselves : Type 0
ObjectsIntoThemselves =
    (misuse_of arrays (opcode.ObjectChange InsertObj) (Some 5) (Some 5) ≡ Some (IntoItself 5))
    × (misuse_of arrays (opcode.ObjectChange InsertObj) (Some 5) (Some 6) ≡ None)
    × (misuse_of arrays (opcode.ObjectChange InsertObj) (Some 0) (Some 0) ≡ None)
    × (misuse_of arrays (opcode.ObjectChange RemoveObj) (Some 5) (Some 5) ≡ None)
    × (misuse_of arrays (opcode.ObjectQuestion Jin) (Some 5) (Some 5) ≡ None)

-- ---- instructions in code (section 4)

-- what is told of the instruction at address 0 of a story of a version by its constants
abbrev pub told : ℕ → List ℕ → Option Misuse
told version bytes =
    misuse_at (record { version = version; static_base = 0; bytes = bytes; file = []; setup = plain_setup 0 }) arrays 0

-- `loadb 100 10`; with variable 10 in place of 10, and in place of 100; and without its last byte
abbrev pub ArraysInCode : Type 0
ArraysInCode =
    (told 5 (0x10 ∷ 100 ∷ 10 ∷ 0 ∷ []) ≡ read 0 110)
    × (told 5 (0x10 ∷ 100 ∷ 9 ∷ 0 ∷ []) ≡ None)
    × (told 5 (0x30 ∷ 100 ∷ 10 ∷ 0 ∷ []) ≡ None)
    × (told 5 (0x50 ∷ 100 ∷ 10 ∷ 0 ∷ []) ≡ None)
    × (told 5 (0x10 ∷ 100 ∷ 10 ∷ []) ≡ None)
    × (told 3 (0xe1 ∷ 0x57 ∷ 100 ∷ 5 ∷ 1 ∷ []) ≡ written 0 110)

-- 0x8f begins `call_1n` in version 5, and `not` in version 3; 0xe0 with one operand is a call in each
abbrev pub CallsInCode : Type 0
CallsInCode =
    (told 5 (0x8f ∷ 0 ∷ 0 ∷ []) ≡ Some CallOfZero)
    × (told 5 (0x8f ∷ 1 ∷ 0 ∷ []) ≡ None)
    × (told 3 (0x8f ∷ 0 ∷ 0 ∷ 1 ∷ []) ≡ None)
    × (told 3 (0xe0 ∷ 0x3f ∷ 0 ∷ 0 ∷ 1 ∷ []) ≡ Some CallOfZero)
    × (told 5 (0xaf ∷ 0 ∷ []) ≡ None)

-- `insert_obj` of 5 into 5, and into 6
abbrev pub ObjectsInCode : Type 0
ObjectsInCode =
    (told 5 (0x0e ∷ 5 ∷ 5 ∷ []) ≡ Some (IntoItself 5))
    × (told 5 (0x0e ∷ 5 ∷ 6 ∷ []) ≡ None)

-- ---- instructions in a run (sections 4.2 and 6)

-- what is told of the instruction at address 0 of a story of version 5, in a routine with local variables and with
-- words on its evaluation stack, the newest last
abbrev pub run : List ℕ → List ℕ → List ℕ → Option Misuse
run bytes locals words =
    misuse_next (working (memory_of 5 bytes) (routine_with locals words None) []) arrays 0

-- of `loadb` of two variables; the global variables 16 and 17 are 100 and 10
abbrev pub met : ℕ → ℕ → List ℕ → List ℕ → Option Misuse
met first second = run (0x70 ∷ first ∷ second ∷ 0 ∷ 0 ∷ 100 ∷ 0 ∷ 10 ∷ [])

-- variable 0 pulls the newest word, and then the one under it
abbrev pub WordsOfTheStack : Type 0
WordsOfTheStack =
    (met 0 0 [] (7 ∷ 10 ∷ 100 ∷ []) ≡ read 0 110)
    × (met 0 0 [] (100 ∷ 10 ∷ []) ≡ None)
    × (met 0 0 [] (9 ∷ 100 ∷ []) ≡ None)
    × (met 0 0 [] (100 ∷ []) ≡ None)
    × (met 0 0 [] [] ≡ None)

-- a local or global variable pulls nothing, be it read before variable 0 or after it
abbrev pub VariablesInARun : Type 0
VariablesInARun =
    (met 1 2 (100 ∷ 10 ∷ []) [] ≡ read 0 110)
    × (met 2 1 (100 ∷ 10 ∷ []) [] ≡ None)
    × (met 1 3 (100 ∷ 10 ∷ []) [] ≡ None)
    × (met 16 17 [] [] ≡ read 0 110)
    × (met 16 0 [] (9 ∷ 10 ∷ []) ≡ read 0 110)
    × (met 16 0 [] (10 ∷ 9 ∷ []) ≡ None)
    × (met 0 17 [] (10 ∷ 100 ∷ []) ≡ read 0 110)
    × (met 0 1 (10 ∷ []) (100 ∷ []) ≡ read 0 110)

-- `call_1n 0`, and `call_1n` of the newest word; `insert_obj` of local variable 1 into 5; and `call_1n` without its
-- last byte
abbrev pub ConstantsInARun : Type 0
ConstantsInARun =
    (run (0x8f ∷ 0 ∷ 0 ∷ []) [] [] ≡ Some CallOfZero)
    × (run (0xaf ∷ 0 ∷ []) [] (1 ∷ 0 ∷ []) ≡ Some CallOfZero)
    × (run (0xaf ∷ 0 ∷ []) [] (0 ∷ 1 ∷ []) ≡ None)
    × (run (0x4e ∷ 1 ∷ 5 ∷ []) (5 ∷ []) [] ≡ Some (IntoItself 5))
    × (run (0x4e ∷ 1 ∷ 5 ∷ []) (6 ∷ []) [] ≡ None)
    × (run (0x8f ∷ 0 ∷ []) [] [] ≡ None)

-- ---- texts that are printed by their addresses (sections 1.2.3 and 15)

-- the text of the instruction at address 0 of a story of a version, as above
abbrev pub text_in : ℕ → List ℕ → List ℕ → List ℕ → Option ℕ
text_in version bytes locals words =
    text_next (working (memory_of version bytes) (routine_with locals words None) []) 0

-- `print_paddr 0x1234`, which is doubled in version 3, and times four and eight in 5 and 8; `print_addr 0x1234`
abbrev pub PackedTexts : Type 0
PackedTexts =
    (text_in 3 (0x8d ∷ 0x12 ∷ 0x34 ∷ []) [] [] ≡ Some 0x2468)
    × (text_in 5 (0x8d ∷ 0x12 ∷ 0x34 ∷ []) [] [] ≡ Some 0x48d0)
    × (text_in 8 (0x8d ∷ 0x12 ∷ 0x34 ∷ []) [] [] ≡ Some 0x91a0)
    × (text_in 5 (0x87 ∷ 0x12 ∷ 0x34 ∷ []) [] [] ≡ Some 0x1234)

-- `print_paddr` of the newest word of the evaluation stack, and of local variable 1; with no word there, it has no text
abbrev pub TextsByVariables : Type 0
TextsByVariables =
    (text_in 5 (0xad ∷ 0 ∷ []) [] (7 ∷ 9 ∷ []) ≡ Some 36)
    × (text_in 5 (0xad ∷ 1 ∷ []) (5 ∷ []) (9 ∷ []) ≡ Some 20)
    × (text_in 5 (0xa7 ∷ 0 ∷ []) [] (7 ∷ 9 ∷ []) ≡ Some 9)
    × (text_in 5 (0xad ∷ 0 ∷ []) [] [] ≡ None)

-- `print_obj`, `print_char` and `ret` have none, and neither has `print_paddr` without its last byte
abbrev pub OtherTexts : Type 0
OtherTexts =
    (text_in 5 (0x9a ∷ 5 ∷ []) [] [] ≡ None)
    × (text_in 5 (0xe5 ∷ 0x7f ∷ 65 ∷ []) [] [] ≡ None)
    × (text_in 5 (0x9b ∷ 5 ∷ []) [] [] ≡ None)
    × (text_in 5 (0x8d ∷ 0x12 ∷ []) [] [] ≡ None)
