-- Worked examples of what is printed, by hand from the Standard.
use Rattle.std.specs.Prelude.{◌≡◌, [], ◌∷◌, ◌++◌, Some, None, Ok, true, codes}
use Rattle.zk_mem.specs.Map.{MemoryMap}
use Rattle.zk_code.specs.declared.opcode.Idle.TheVariants.{Nop, SetColour, SetTrueColour, BufferMode, Piracy}
use Rattle.zk_code.specs.declared.opcode.Idle.TheVariants.{CheckUnicode}
use Rattle.zk_code.specs.declared.opcode.Printing.TheVariants.{Print, PrintRet, NewLine, PrintNum, PrintChar}
use Rattle.zk_code.specs.declared.opcode.Printing.TheVariants.{PrintUnicode, PrintAddr, PrintPaddr}
use Rattle.zk_step.specs.declared.state.ending.Ending.TheVariants as ending
use Rattle.zk_step.specs.declared.state.ending.Output.TheVariants as output
use Rattle.zk_step.specs.Endings.{goes_on, gives, tests, prints}
use Rattle.zk_step.specs.Idle.{idle}
use Rattle.zk_step.specs.Printing.{printing, characters_of}
use Rattle.zk_step.specs.guards.Examples.{memory_of}

-- ---- printing (sections 3, 7 and 15)

-- eight bytes, then a text of one word: Z-characters 6, 7 and 8, which are "abc"
abbrev pub with_text : MemoryMap
with_text = memory_of 5 (0 ∷ 0 ∷ 0 ∷ 0 ∷ 0 ∷ 0 ∷ 0 ∷ 0 ∷ 0x98 ∷ 0xe8 ∷ [])

-- a new line is code 13; `print_char` prints a code, `print_num` a signed number, `print_unicode` a character
-- (section 15, `new_line`, `print_char`, `print_num`, `print_unicode`)
abbrev pub PrintsWhat : Type 0
PrintsWhat =
    (printing NewLine with_text None [] ≡ Ok (prints (output.Code 13)))
    × (printing PrintChar with_text None (65 ∷ []) ≡ Ok (prints (output.Code 65)))
    × (printing PrintNum with_text None (65535 ∷ []) ≡ Ok (prints (output.Number 65535)))
    × (printing PrintUnicode with_text None (233 ∷ []) ≡ Ok (prints (output.Character 233)))

-- code 65 shows an A, and code 13 a new line; a Unicode character shows itself (section 3.8)
abbrev pub ShowsCodes : Type 0
ShowsCodes =
    (characters_of with_text (output.Code 65) ≡ 65 ∷ [])
    × (characters_of with_text (output.Code 13) ≡ 10 ∷ [])
    × (characters_of with_text (output.Character 233) ≡ 233 ∷ [])

-- a number shows with its sign: 65535 is -1, and 32767 itself (section 15, `print_num`)
abbrev pub ShowsSignedNumbers : Type 0
ShowsSignedNumbers =
    (characters_of with_text (output.Number 65535) ≡ codes "-1")
    × (characters_of with_text (output.Number 32767) ≡ codes "32767")

-- `print_addr` takes a byte address, `print_paddr` a packed one: in version 5 the text at 8 has packed address 2
-- (section 15, `print`, `print_addr`, `print_paddr`)
abbrev pub PrintsTexts : Type 0
PrintsTexts =
    (printing PrintAddr with_text None (8 ∷ []) ≡ Ok (prints (output.Text 8)))
    × (printing PrintPaddr with_text None (2 ∷ []) ≡ Ok (prints (output.Text 8)))
    × (printing Print with_text (Some 8) [] ≡ Ok (prints (output.Text 8)))
    × (characters_of with_text (output.Text 8) ≡ codes "abc")

-- `print_ret` prints its text and a new line, and returns 1 (section 15, `print_ret`)
abbrev pub PrintsAndReturns : Type 0
PrintsAndReturns =
    (printing PrintRet with_text (Some 8) [] ≡ Ok (record { output = output.Line 8; ending = ending.Return 1 }))
    × (characters_of with_text (output.Line 8) ≡ codes "abc" ++ 10 ∷ [])

-- ---- what does nothing (sections 7, 8 and 15)

-- the game is genuine, and colours and buffering do nothing (section 15, `piracy`)
abbrev pub ColoursAndBuffering : Type 0
ColoursAndBuffering =
    (idle Piracy with_text [] ≡ tests true)
    × (idle SetColour with_text (3 ∷ 4 ∷ []) ≡ goes_on)
    × (idle SetTrueColour with_text (3 ∷ 4 ∷ []) ≡ goes_on)
    × (idle BufferMode with_text (0 ∷ []) ≡ goes_on)
    × (idle Nop with_text [] ≡ goes_on)

-- `a` and the small e with an acute accent can be printed and read, a Cyrillic letter printed alone, a control not
-- (section 15, `check_unicode`)
abbrev pub UnicodeAnswers : Type 0
UnicodeAnswers =
    (idle CheckUnicode with_text (97 ∷ []) ≡ gives 3)
    × (idle CheckUnicode with_text (233 ∷ []) ≡ gives 3)
    × (idle CheckUnicode with_text (0x0416 ∷ []) ≡ gives 1)
    × (idle CheckUnicode with_text (7 ∷ []) ≡ gives 0)
    × (idle CheckUnicode with_text (0xd800 ∷ []) ≡ gives 0)
