-- Worked examples of whole instructions, by hand from the Standard.
use Rattle.std.specs.Prelude.{◌≡◌, ℕ, [], ◌∷◌, Some, None, Ok, Err, true, false, codes, replicate}
use Rattle.zk_state.specs.declared.refusal.Limit.TheVariants.{Frames, Words}
use Rattle.zk_state.specs.declared.refusal.Refusal.TheVariants.{Limit}
use Rattle.zk_code.specs.declared.branch.BranchTarget.TheVariants as target
use Rattle.zk_code.specs.declared.opcode.Opcode.TheVariants as opcode
use Rattle.zk_code.specs.declared.opcode.Arithmetic.TheVariants.{Sub}
use Rattle.zk_code.specs.declared.opcode.Comparison.TheVariants.{Jl}
use Rattle.zk_code.specs.declared.opcode.Printing.TheVariants.{PrintChar}
use Rattle.zk_code.specs.declared.opcode.Reading.TheVariants.{Sread}
use Rattle.zk_code.specs.declared.opcode.Words.TheVariants.{EncodeText}
use Rattle.zk_code.specs.declared.operands.Operand.TheVariants.{Large, Small, Variable}
use Rattle.zk_step.specs.declared.state.ending.Next.TheVariants.{Asks, At}
use Rattle.zk_step.specs.declared.state.ending.Event.TheVariants.{Line, Char}
use Rattle.zk_step.specs.declared.state.ending.Request.TheVariants as request
use Rattle.zk_step.specs.declared.state.game_state.GameState.{GameState}
use Rattle.zk_step.specs.Instructions.{carried_out}
use Rattle.zk_step.specs.Limited.{limited, limited_next}
use Rattle.zk_step.specs.Routing.{Signals, with_line_start}
use Rattle.zk_term.specs.Signals.Signal.{Text}
use Rattle.zk_term.specs.Styles.{roman}
use Rattle.zk_step.specs.guards.Examples.{memory_of, routine_with, working, in_routine, instruction, with_bytes}

-- ---- whole instructions

-- nothing is shown
abbrev pub silent : Signals
silent = []

-- `sub` of local variable 1 and 3, stored in local variable 2: the next instruction follows (sections 4.6 and 15,
-- `sub`)
abbrev pub CarriesOutASubtraction : Type 0
CarriesOutASubtraction =
    carried_out (in_routine (5 ∷ 0 ∷ []) []) (instruction (opcode.Arithmetic Sub) (Variable 1 ∷ Small 3 ∷ [])
    (Some 2) None)
    ≡ Ok (in_routine (5 ∷ 2 ∷ []) [], (At 9, silent))

-- `jl` of -1 and 1 that branches on true to address 5, and one that branches on false (sections 4.7 and 15, `jl`)
abbrev pub CarriesOutABranch : Type 0
CarriesOutABranch =
    (carried_out (in_routine [] []) (instruction (opcode.Comparison Jl) (Large 65535 ∷ Small 1 ∷ []) None
    (Some (record { on = true; target = target.At 5 })))
    ≡ Ok (in_routine [] [], (At 5, silent)))
    × (carried_out (in_routine [] []) (instruction (opcode.Comparison Jl) (Large 65535 ∷ Small 1 ∷ []) None
    (Some (record { on = false; target = target.At 5 })))
    ≡ Ok (in_routine [] [], (At 9, silent)))

-- `print_char` of 65 shows an A on the screen (section 15, `print_char`)
abbrev pub CarriesOutPrinting : Type 0
CarriesOutPrinting =
    carried_out (in_routine [] []) (instruction (opcode.Printing PrintChar) (Small 65 ∷ []) None None)
    ≡ Ok (with_line_start false (in_routine [] []), (At 9, Text 65 roman ∷ []))

-- `sread` takes its operands from left to right, and the story waits; `encode_text` of `i` goes on (section 15,
-- `sread`, `encode_text`)
abbrev pub CarriesOutInput : Type 0
CarriesOutInput =
    (carried_out (in_routine [] (44 ∷ 55 ∷ [])) (instruction (opcode.Reading Sread)
    (Variable 0 ∷ Small 8 ∷ []) None None)
    ≡ Ok (in_routine [] (44 ∷ []), (Asks (request.Answer (Line 55 8)), silent)))
    × (carried_out (with_bytes (105 ∷ 9 ∷ 9 ∷ 9 ∷ 9 ∷ 9 ∷ 9 ∷ []))
    (instruction (opcode.Words EncodeText) (Small 0 ∷ Small 1 ∷ Small 0 ∷ Small 1 ∷ []) None None)
    ≡ Ok (with_bytes (105 ∷ 0x38 ∷ 0xa5 ∷ 0x14 ∷ 0xa5 ∷ 0x94 ∷ 0xa5 ∷ []), (At 9, silent)))

-- ---- the bounds (5 frames and 20 words here)

-- a game state with so many routines that wait, each with so many words
abbrev pub waiting : ℕ → ℕ → GameState
waiting frames words =
    working (memory_of 5 []) (routine_with [] [] None) (replicate frames (routine_with [] (replicate words 0) None))

-- the current routine and four others are 5 frames: five others are too many, and 21 words are; frames go first
-- (section 6.3)
abbrev pub BoundsAreLookedFor : Type 0
BoundsAreLookedFor =
    (limited (Ok (waiting 4 5)) ≡ Ok (waiting 4 5))
    × (limited (Ok (waiting 5 1)) ≡ Err (Limit Frames))
    × (limited (Ok (waiting 3 7)) ≡ Err (Limit Words))
    × (limited (Ok (waiting 5 7)) ≡ Err (Limit Frames))

-- where the story has ended no bound is looked for (section 6.3)
abbrev pub NoBoundAtTheEnd : Type 0
NoBoundAtTheEnd =
    (limited_next (Ok (waiting 5 1, At 9)) ≡ Err (Limit Frames))
    × (limited_next (Ok (waiting 5 1, Asks request.Quit)) ≡ Ok (waiting 5 1, Asks request.Quit))

-- nor where it waits
abbrev pub NoBoundWhereItWaits : Type 0
NoBoundWhereItWaits =
    limited_next (Ok (waiting 5 1, Asks (request.Answer Char))) ≡ Ok (waiting 5 1, Asks (request.Answer Char))
