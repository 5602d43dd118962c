-- Worked examples of saved games, restarts and states to go back to: what the Standard says of small cases, worked out
-- by hand.
use Rattle.std.specs.Prelude.{◌≡◌, ℕ, true, false, List, [], ◌∷◌, ◌++◌, Some, None, Ok, Err, replicate, codes}
use Rattle.zk_mem.specs.declared.fault.Fault.TheVariants.{ReadOnly, StackEmpty, NoSuchLocal, BadTarget, ReturnFromMain}
use Rattle.zk_mem.specs.Fresh.{plain_setup}
use Rattle.zk_mem.specs.Map.{MemoryMap}
use Rattle.zk_code.specs.declared.branch.BranchTarget.TheVariants as target
use Rattle.zk_code.specs.declared.instr.Instr.{Instr}
use Rattle.zk_code.specs.declared.opcode.Opcode.TheVariants as opcode
use Rattle.zk_code.specs.declared.opcode.Saving.TheVariants.{SaveBranch, SaveStore, RestoreBranch, RestoreStore, Save}
use Rattle.zk_code.specs.declared.opcode.Saving.TheVariants.{Restore, Restart, Verify, SaveUndo, RestoreUndo}
use Rattle.zk_code.specs.declared.operands.Operand.TheVariants.{Variable}
use Rattle.zk_term.specs.declared.style.Style.{Style}
use Rattle.zk_term.specs.declared.windows.Window.TheVariants.{Upper}
use Rattle.zk_term.specs.Windows.{Windows, printed, split, window_selected}
use Rattle.zk_step.specs.declared.state.ending.Ending.TheVariants as ending
use Rattle.zk_step.specs.declared.state.ending.Next.TheVariants.{Asks, At}
use Rattle.zk_step.specs.declared.state.ending.Event.TheVariants as event
use Rattle.zk_step.specs.declared.state.ending.Request.TheVariants as request
use Rattle.zk_step.specs.declared.state.game_state.View.TheVariants as view
use Rattle.zk_step.specs.declared.state.game_state.GameState.{GameState}
use Rattle.zk_step.specs.Endings.{ends, gives, tests}
use Rattle.zk_step.specs.guards.Examples.{first_here, memory_of, routine_with, caller_with, working, in_routine}
use Rattle.zk_step.specs.guards.Examples.{instruction}
use Rattle.zk_step.specs.guards.InstructionExamples.{silent, waiting}
use Rattle.zk_step.specs.Finish.{finished}
use Rattle.zk_step.specs.Inputs.{result_answered}
use Rattle.zk_step.specs.Instructions.{carried_out}
use Rattle.zk_step.specs.Limited.{limited_next}
use Rattle.zk_step.specs.guards.OutputExamples.{states, streams, table}
use Rattle.zk_step.specs.Restarts.{windows_closed}
use Rattle.zk_step.specs.Resuming.{resumed}
use Rattle.zk_step.specs.Saving.{saving}

-- ---- the effects

-- memory without any byte
abbrev pub no_memory : MemoryMap
no_memory = memory_of 5 []

-- a whole game that is saved waits, in each of the three forms of `save` (section 15, `save`)
abbrev pub SavesWait : Type 0
SavesWait =
    (saving SaveBranch no_memory [] ≡ ends (ending.Asks (request.Answer event.Save)))
    × (saving SaveStore no_memory [] ≡ ends (ending.Asks (request.Answer event.Save)))
    × (saving Save no_memory [] ≡ ends (ending.Asks (request.Answer event.Save)))

-- so does one that is restored (section 15, `restore`)
abbrev pub RestoresWait : Type 0
RestoresWait =
    (saving RestoreBranch no_memory [] ≡ ends (ending.Asks (request.Answer event.Restore)))
    × (saving RestoreStore no_memory [] ≡ ends (ending.Asks (request.Answer event.Restore)))
    × (saving Restore no_memory [] ≡ ends (ending.Asks (request.Answer event.Restore)))

-- a table is neither saved nor restored: with operands, be they 0, the result is 0 (section 15, `save` and `restore`; a
-- choice of zkit)
abbrev pub TablesAreNotSaved : Type 0
TablesAreNotSaved =
    (saving Save no_memory (8 ∷ 4 ∷ 16 ∷ []) ≡ gives 0)
    × (saving Save no_memory (0 ∷ []) ≡ gives 0)
    × (saving Restore no_memory (8 ∷ 4 ∷ 16 ∷ []) ≡ gives 0)
    × (saving Restore no_memory (0 ∷ []) ≡ gives 0)

-- a file of version 3 and of 33 units of 2 bytes, whose header has this checksum; the bytes after the header are 0x41
-- and 0xff, and their sum is 0x140
abbrev pub file_with_sum : ℕ → ℕ → List ℕ
file_with_sum high low = 3 ∷ replicate 26 0 ++ 33 ∷ high ∷ low ∷ replicate 34 0 ++ 0x41 ∷ 0xff ∷ []

-- a memory of this file, all of whose bytes the story has changed
abbrev pub changed_memory : List ℕ → MemoryMap
changed_memory file = record {
  version = 3;
  static_base = 66;
  bytes = replicate 66 7;
  file = file;
  setup =
      plain_setup 0;
}

-- the file's own bytes are summed, in 16 bits, and the checksum's high byte comes first (section 15, `verify`)
abbrev pub SumsAreVerified : Type 0
SumsAreVerified =
    (saving Verify (changed_memory (file_with_sum 1 0x40)) [] ≡ tests true)
    × (saving Verify (changed_memory (file_with_sum 0x40 1)) [] ≡ tests false)
    × (saving Verify (changed_memory (file_with_sum 0 0x40)) [] ≡ tests false)

-- `restart` begins again, `save_undo` keeps the state, and `restore_undo` goes back to it (section 15)
abbrev pub StatesAreKept : Type 0
StatesAreKept =
    (saving Restart no_memory [] ≡ ends ending.Restart)
    × (saving SaveUndo no_memory [] ≡ ends (ending.Asks request.SaveUndo))
    × (saving RestoreUndo no_memory [] ≡ ends (ending.Asks request.RestoreUndo))

-- ---- whole instructions

-- operands are taken first; then the story waits, keeps its state or goes back to one, and nothing is stored yet
abbrev pub CarriesOutSaving : Type 0
CarriesOutSaving =
    (carried_out (in_routine (5 ∷ []) (44 ∷ [])) (instruction (opcode.Saving Save) [] (Some 1) None) ≡ Ok
    (in_routine (5 ∷ []) (44 ∷ []), (Asks (request.Answer event.Save), silent)))
    × (carried_out (in_routine (5 ∷ []) (44 ∷ [])) (instruction (opcode.Saving Save) (Variable 0 ∷ []) (Some 1)
    None) ≡ Ok (in_routine (0 ∷ []) [], (At 9, silent)))
    × (carried_out (in_routine (5 ∷ []) []) (instruction (opcode.Saving Save) (Variable 0 ∷ []) (Some 1) None)
    ≡ Err StackEmpty)
    × (carried_out (in_routine (5 ∷ []) (44 ∷ [])) (instruction (opcode.Saving SaveUndo) [] (Some 1) None) ≡ Ok
    (in_routine (5 ∷ []) (44 ∷ []), (Asks request.SaveUndo, silent)))
    × (carried_out (in_routine (5 ∷ []) (44 ∷ [])) (instruction (opcode.Saving RestoreUndo) [] (Some 1) None) ≡ Ok
    (in_routine (5 ∷ []) (44 ∷ []), (Asks request.RestoreUndo, silent)))

-- what keeps its state, or goes back to one, goes on nowhere, and stores nothing (section 15, `save_undo`)
abbrev pub StatesAreLeft : Type 0
StatesAreLeft =
    (finished (in_routine (5 ∷ []) []) (instruction (opcode.Saving SaveUndo) [] (Some 1) None) []
    (ending.Asks request.SaveUndo) ≡ Ok (in_routine (5 ∷ []) [], Asks request.SaveUndo))
    × (finished (in_routine (5 ∷ []) []) (instruction (opcode.Saving RestoreUndo) [] (Some 1) None) []
    (ending.Asks request.RestoreUndo) ≡ Ok (in_routine (5 ∷ []) [], Asks request.RestoreUndo))

-- and no bound is looked for there (section 6.3)
abbrev pub NoBoundWhereItKeeps : Type 0
NoBoundWhereItKeeps =
    (limited_next (Ok (waiting 5 1, Asks request.SaveUndo)) ≡ Ok (waiting 5 1, Asks request.SaveUndo))
    × (limited_next (Ok (waiting 5 1, Asks request.RestoreUndo)) ≡ Ok (waiting 5 1, Asks request.RestoreUndo))

-- ---- restarts

-- bytes of version 3, with this byte of Flags 1, this first word and this low byte of Flags 2, and another at the end
abbrev pub bytes_of_3 : ℕ → ℕ → ℕ → ℕ → ℕ → List ℕ
bytes_of_3 flags_1 high low flags_2 last = 3 ∷ flags_1 ∷ replicate 4 0 ++ high ∷ low ∷ replicate 9 0 ++ flags_2
    ∷ replicate 32 0 ++ 1 ∷ 1 ∷ replicate 12 0 ++ last ∷ []

-- a story whose first instruction is at 0x123
abbrev pub file_of_3 : List ℕ
file_of_3 = bytes_of_3 0b11010010 1 0x23 0b10100010 77

-- its memory, with these bytes
abbrev pub memory_of_3 : List ℕ → MemoryMap
memory_of_3 bytes = record { version = 3; static_base = 65; bytes = bytes; file = file_of_3; setup = plain_setup 4 }

-- bold text
abbrev pub bold : Style
bold = record { reverse = false; bold = true; italic = false; fixed = false }

-- an upper window with this text, bold text from now on, and the font of a fixed pitch
abbrev pub windows_at_work : Windows
windows_at_work =
    record (printed (codes "AB") (window_selected Upper (split 3 2 first_here))) { style = bold; fixed_font = true }

-- a game state whose story was at work: it has changed its header, called a routine, turned stream 1 off and opened
-- tables, and prints in the upper window, in bold and with the font of a fixed pitch
abbrev pub at_work : GameState
at_work = record {
  memory = memory_of_3 (bytes_of_3 0 9 9 0b01010101 88);
  frames = record {
    current = routine_with (1 ∷ []) (2 ∷ 3 ∷ []) (Some 1);
    callers = caller_with [] (4 ∷ []) ∷ [];
    most_frames = 5;
    most_words = 20;
  };
  streams = streams false (table 20 3 ∷ table 30 1 ∷ []);
  windows = windows_at_work;
  generators = states 7 (Some 5);
  at_line_start = false;
  view = view.Upper;
}

-- no upper window any more, but for the grid that has gone with it, and roman text in the normal font
abbrev pub windows_after : Windows
windows_after = record first_here { gone = at_work.windows.cells; gone_height = 2 }

-- the bytes are the file's, but for bits 0 and 1 of Flags 2 and what an interpreter sets; the first frame stands alone;
-- there is no upper window and no open table, and text is roman in the normal font; stream 1, random numbers and what
-- the screen shows go on. The first instruction is the one that the file names (sections 6.1.3 and 15, `restart`)
abbrev pub RestartsBegin : Type 0
RestartsBegin =
    finished at_work (instruction (opcode.Saving Restart) [] None None) [] ending.Restart
    ≡ Ok (
      record {
        memory = memory_of_3 (bytes_of_3 0b10100010 1 0x23 0b10100001 77);
        frames = record {
          current = record { locals = []; words = []; pc = 0; result = None; supplied = 0 };
          callers = [];
          most_frames = 5;
          most_words = 20;
        };
        streams = streams false [];
        windows = windows_after;
        generators = states 7 (Some 5);
        at_line_start = false;
        view = view.Upper;
      },
      At 0x123,
    )

-- where a saved game is back, memory and frames are its own, the upper window and the open tables are gone, and the
-- style and the font stay
abbrev pub WindowsAreRenewed : Type 0
WindowsAreRenewed =
    windows_closed at_work
    ≡ record at_work { streams = streams false []; windows = record windows_after { style = bold; fixed_font = true } }

-- ---- answers

-- an instruction that branches to address 5
abbrev pub branching : Instr
branching = instruction (opcode.Saving SaveBranch) [] None (Some (record { on = true; target = target.At 5 }))

-- one that branches there on failure
abbrev pub branching_on_failure : Instr
branching_on_failure =
    instruction (opcode.Saving SaveBranch) [] None (Some (record { on = false; target = target.At 5 }))

-- up to version 3 the branch is taken by the truth, and nothing is stored (section 15, `save`)
abbrev pub TruthsBranch : Type 0
TruthsBranch =
    (result_answered (in_routine [] []) branching 1 true ≡ Ok (in_routine [] [], 5))
    × (result_answered (in_routine [] []) branching 0 false ≡ Ok (in_routine [] [], 9))
    × (result_answered (in_routine [] []) branching_on_failure 1 true ≡ Ok (in_routine [] [], 9))
    × (result_answered (in_routine [] []) branching_on_failure 0 false ≡ Ok (in_routine [] [], 5))

-- from version 4 on the result is stored, whatever the truth is (section 15, `save`)
abbrev pub ResultsAreStored : Type 0
ResultsAreStored =
    (result_answered (in_routine (5 ∷ 6 ∷ []) []) (instruction (opcode.Saving Save) [] (Some 2) None) 1 true ≡ Ok
    (in_routine (5 ∷ 1 ∷ []) [], 9))
    × (result_answered (in_routine (5 ∷ 6 ∷ []) []) (instruction (opcode.Saving Save) [] (Some 2) None) 0
    false ≡ Ok (in_routine (5 ∷ 0 ∷ []) [], 9))
    × (result_answered (in_routine [] (44 ∷ [])) (instruction (opcode.Saving SaveUndo) [] (Some 0) None) 65535
    false ≡ Ok (in_routine [] (44 ∷ 65535 ∷ []), 9))

-- ---- states that are back

-- a routine with two local variables and a word, in a memory of ten bytes of which two stand at address 2
abbrev pub back_at : ℕ → ℕ → ℕ → GameState
back_at version a b = working (memory_of version (0 ∷ 0 ∷ a ∷ b ∷ replicate 6 0))
    (routine_with (5 ∷ 6 ∷ []) (44 ∷ []) (Some 1)) (caller_with (61 ∷ 62 ∷ []) (63 ∷ []) ∷ [])

-- its caller, which got a value into its first local variable
abbrev pub back_in_caller : ℕ → ℕ → ℕ → GameState
back_in_caller a b value =
    working (memory_of 3 (0 ∷ 0 ∷ a ∷ b ∷ replicate 6 0)) (caller_with (value ∷ 62 ∷ []) (63 ∷ [])) []

-- in version 3 a branch on true is taken: by 5 or 4 from the address after it, less 2, and by -2; one on false is not,
-- and what stands after it follows (sections 4.7 and 15, `save`)
abbrev pub BranchesAreTaken : Type 0
BranchesAreTaken =
    (resumed (back_at 3 0xc5 0) 2 ≡ Ok (back_at 3 0xc5 0, 6))
    × (resumed (back_at 3 0x45 0) 2 ≡ Ok (back_at 3 0x45 0, 3))
    × (resumed (back_at 3 0x80 4) 2 ≡ Ok (back_at 3 0x80 4, 6))
    × (resumed (back_at 3 0x00 4) 2 ≡ Ok (back_at 3 0x00 4, 4))
    × (resumed (back_at 3 0xbf 0xfe) 2 ≡ Ok (back_at 3 0xbf 0xfe, 0))

-- a branch by 1 returns true to the caller, and one by 0 false; the first frame has no caller (section 4.7.1)
abbrev pub BranchesReturn : Type 0
BranchesReturn =
    (resumed (back_at 3 0xc1 9) 2 ≡ Ok (back_in_caller 0xc1 9 1, 70))
    × (resumed (back_at 3 0xc0 9) 2 ≡ Ok (back_in_caller 0xc0 9 0, 70))
    × (resumed (back_at 3 0x80 1) 2 ≡ Ok (back_in_caller 0x80 1 1, 70))
    × (resumed (back_in_caller 0xc1 9 61) 2 ≡ Err ReturnFromMain)

-- a branch that leads out of the story, and one of which a byte lies past it, lead nowhere
abbrev pub BranchesMissTheStory : Type 0
BranchesMissTheStory =
    (resumed (back_at 3 0xc9 0) 2 ≡ Err BadTarget)
    × (resumed (back_at 3 0xbf 0xfd) 2 ≡ Err BadTarget)
    × (resumed (working (memory_of 3 (0 ∷ 0 ∷ 0x80 ∷ [])) (routine_with [] [] None) []) 2 ≡ Err BadTarget)
    × (resumed (working (memory_of 3 (0 ∷ 0 ∷ 0xc5 ∷ [])) (routine_with [] [] None) []) 3 ≡ Err BadTarget)

-- from version 4 on 2 is stored where the byte says, and what stands after it follows (section 15, `save`)
abbrev pub TwoIsStored : Type 0
TwoIsStored =
    (resumed (back_at 4 1 0) 2 ≡ Ok (record (back_at 4 1 0) { frames = (in_routine (2 ∷ 6 ∷ []) (44 ∷ [])).frames }, 3))
    × (resumed (back_at 5 2 0) 2 ≡ Ok
    (record (back_at 5 2 0) { frames = (in_routine (5 ∷ 2 ∷ []) (44 ∷ [])).frames }, 3))
    × (resumed (back_at 5 0 1) 2 ≡ Ok
    (record (back_at 5 0 1) { frames = (in_routine (5 ∷ 6 ∷ []) (44 ∷ 2 ∷ [])).frames }, 3))
    × (resumed (back_at 5 17 0) 2 ≡ Ok
    (record (back_at 5 17 0) { memory = memory_of 5 (0 ∷ 0 ∷ 17 ∷ 0 ∷ 0 ∷ 0 ∷ 0 ∷ 2 ∷ 0 ∷ 0 ∷ []) }, 3))

-- a game state whose dynamic memory ends at an address
abbrev pub dynamic_below : ℕ → GameState → GameState
dynamic_below a w = record w { memory = record w.memory { static_base = a } }

-- not where there is no such variable, where it can't be written, and where the byte lies past the story
abbrev pub TwoIsNotStored : Type 0
TwoIsNotStored =
    (resumed (back_at 5 3 0) 2 ≡ Err NoSuchLocal)
    × (resumed (dynamic_below 7 (back_at 5 17 0)) 2 ≡ Err ReadOnly)
    × (resumed (back_at 5 1 0) 10 ≡ Err BadTarget)
