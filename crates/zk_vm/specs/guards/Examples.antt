-- Worked examples of this crate's definitions: small stories, and what the Standard's machine does with them, worked
-- out by hand.
use Rattle.std.specs.Prelude.{◌≡◌, ℕ, List, [], ◌∷◌, ◌++◌, Some, None, replicate, codes, slice_index, true, false}
use Rattle.zk_mem.specs.Fresh.{plain_screen}
use Rattle.zk_mem.specs.declared.fault.Fault.TheVariants.{BadAddress, DivisionByZero, BadOpcode, CodePastEnd, ReadOnly}
use Rattle.zk_state.specs.declared.refusal.Limit.TheVariants.{Frames, Words, Steps, Reads}
use Rattle.zk_state.specs.Frames.{Frame, FrameList, first_frame, first_frames}
use Rattle.zk_step.specs.declared.state.game_state.View.TheVariants.{Plain, Upper}
use Rattle.zk_vm.specs.declared.limits.Limits.{Limits}
use Rattle.zk_step.specs.declared.state.ending.Event.TheVariants as event
use Rattle.zk_vm.specs.declared.stop.Stop.TheVariants.{Quit, Fault, Limit}
use Rattle.zk_vm.specs.Answers.Answer.{Typed}
use Rattle.zk_vm.specs.Bounds.{AreInRange}
use Rattle.zk_vm.specs.Calls.{locals_and_return}
use Rattle.zk_vm.specs.Halts.{event_waited}
use Rattle.zk_vm.specs.Inside.{NoneLeaves, leaves}
use Rattle.zk_vm.specs.Log.{Entry, Move, addresses, after, answers_in, moved, parts_of, passed, reads_in, scripted}
use Rattle.zk_vm.specs.Log.{shown, told, signals}
use Rattle.zk_vm.specs.Log.Entry.{Asked, At, Offered, Read, Shown, Stopped}
use Rattle.zk_vm.specs.Log.Move.{Gets, Goes, Part}
use Rattle.zk_vm.specs.Sessions.{Session, begun, with_height, with_stop}
use Rattle.zk_vm.specs.Plays.{codes_read}
use Rattle.zk_step.specs.Routing.{on_screen, on_script}
use Rattle.zk_term.specs.Signals.Signal.{Text, Script, Erase}
use Rattle.zk_term.specs.Styles.{roman}
use Rattle.zk_term.specs.Windows.{row_text}

-- a story of version 5 with its static base and its first instruction at 64, where this code stands
abbrev pub story_of : List ℕ → List ℕ
story_of code = 5 ∷ 0 ∷ 0 ∷ 0 ∷ 0 ∷ 0 ∷ 0 ∷ 64 ∷ 0 ∷ 0 ∷ 0 ∷ 0 ∷ 0 ∷ 0 ∷ 0 ∷ 64 ∷ [] ++ replicate 48 0 ++ code

-- a story begins with the seed 1, and shows nothing of the upper window
abbrev pub starts : List ℕ → Limits → Session
starts story limits = begun story 1 limits Plain

-- so many frames, words and instructions
abbrev pub limits_of : ℕ → ℕ → ℕ → Limits
limits_of frames words steps =
    record { frames = frames; words = words; undo = 0; steps = steps; screen = plain_screen }

-- what passes at so many moves of a machine that nobody answers
abbrev pub log_of : ℕ → Session → List Entry
log_of n s = passed (replicate n Goes) s

-- a text on the screen
abbrev pub shows : List ℕ → List Entry
shows text = told (on_screen text)

-- a character on the screen, and one in the transcript
abbrev pub letter : ℕ → Entry
letter c = Shown (Text c roman)

abbrev pub scripts : ℕ → Entry
scripts c = Shown (Script c)

-- at 64 `print` of "abc", and at 67 `quit`
abbrev pub prints_and_quits : List ℕ
prints_and_quits = story_of (0xb2 ∷ 0x98 ∷ 0xe8 ∷ 0xba ∷ [])

-- it shows "abc" and ends by itself, and then nothing more passes (sections 5.5 and 15, `quit`)
abbrev pub StoriesEnd : Type 0
StoriesEnd =
    log_of 3 (starts prints_and_quits (limits_of 1 0 10)) ≡ At 64 ∷ shows (codes "abc") ++ At 67 ∷ Stopped Quit ∷ []

-- of two instructions, two may be made where the limit is 2, and where it is 1 the second is past it
abbrev pub StepsAreLimited : Type 0
StepsAreLimited =
    (log_of 3 (starts prints_and_quits (limits_of 1 0 2)) ≡ At 64 ∷ shows (codes "abc") ++ At 67 ∷ Stopped Quit ∷ [])
    × (log_of 3 (starts prints_and_quits (limits_of 1 0 1)) ≡ At 64 ∷ shows (codes "abc")
    ++ Stopped (Limit 67 Steps) ∷ [])

-- after "abc", at 67, `div` of 5 by 0: a fault there, and what was shown stays (section 2.3.1)
abbrev pub FaultsStop : Type 0
FaultsStop =
    (log_of 3 (starts (story_of (0xb2 ∷ 0x98 ∷ 0xe8 ∷ 0x17 ∷ 5 ∷ 0 ∷ 0 ∷ [])) (limits_of 1 9 10)) ≡ At 64
    ∷ shows (codes "abc") ++ At 67 ∷ Stopped (Fault 67 DivisionByZero) ∷ [])
    × (log_of 3 (starts (story_of (0xb2 ∷ 0x98 ∷ 0xe8 ∷ [])) (limits_of 1 9 10)) ≡ At 64 ∷ shows (codes "abc")
    ++ At 67 ∷ Stopped (Fault 67 CodePastEnd) ∷ [])

-- `push` at 64 and at 67, where one word may be (section 6.3)
abbrev pub WordsAreLimited : Type 0
WordsAreLimited =
    (log_of 4 (starts (story_of (0xe8 ∷ 0x7f ∷ 9 ∷ 0xe8 ∷ 0x7f ∷ 9 ∷ 0xba ∷ [])) (limits_of 1 1 10)) ≡ At 64
    ∷ At 67 ∷ Stopped (Limit 67 Words) ∷ [])
    × (log_of 4 (starts (story_of (0xe8 ∷ 0x7f ∷ 9 ∷ 0xe8 ∷ 0x7f ∷ 9 ∷ 0xba ∷ [])) (limits_of 1 2 10)) ≡ At 64
    ∷ At 67 ∷ At 70 ∷ Stopped Quit ∷ [])

-- `call_1n` at 64 of the routine at 68, packed address 17, which calls itself at 69: with two frames the first call
-- is made, and the second is past the limit (section 6.4)
abbrev pub FramesAreLimited : Type 0
FramesAreLimited =
    (log_of 4 (starts (story_of (0x8f ∷ 0 ∷ 17 ∷ 0xba ∷ 0 ∷ 0x8f ∷ 0 ∷ 17 ∷ [])) (limits_of 2 9 10)) ≡ At 64
    ∷ At 69 ∷ Stopped (Limit 69 Frames) ∷ [])
    × (log_of 4 (starts (story_of (0x8f ∷ 0 ∷ 17 ∷ 0xba ∷ 0 ∷ 0xb0 ∷ [])) (limits_of 2 9 10)) ≡ At 64 ∷ At 69
    ∷ At 67 ∷ Stopped Quit ∷ [])

-- `call_1s` at 64 of the routine at 72, packed address 18, whose `print_ret` at 73 gives 1 to the stack
abbrev pub prints_in_routine : List ℕ
prints_in_routine = story_of (0x88 ∷ 0 ∷ 18 ∷ 0 ∷ 0xba ∷ 0 ∷ 0 ∷ 0 ∷ 0 ∷ 0xb3 ∷ 0x98 ∷ 0xe8 ∷ [])

-- where no word may be, it shows nothing, and where one may be, it shows "abc" and a new line (section 15, `print_ret`)
abbrev pub RefusedStepsShowNothing : Type 0
RefusedStepsShowNothing =
    (log_of 4 (starts prints_in_routine (limits_of 2 0 10)) ≡ At 64 ∷ At 73 ∷ Stopped (Limit 73 Words) ∷ [])
    × (log_of 4 (starts prints_in_routine (limits_of 2 1 10)) ≡ At 64 ∷ At 73 ∷ shows (codes "abc" ++ 10 ∷ [])
    ++ At 68 ∷ Stopped Quit ∷ [])

-- `jl` of 1 and 2 at 64 branches on true over the `quit` at 68 to the text at 69, and not on false (section 4.7)
abbrev pub BranchesLead : Type 0
BranchesLead =
    (log_of 4 (starts (story_of (0x02 ∷ 1 ∷ 2 ∷ 0xc3 ∷ 0xba ∷ 0xb2 ∷ 0x98 ∷ 0xe8 ∷ 0xba ∷ [])) (limits_of 1 0 10))
    ≡ At 64 ∷ At 69 ∷ shows (codes "abc") ++ At 72 ∷ Stopped Quit ∷ [])
    × (log_of 4 (starts (story_of (0x02 ∷ 1 ∷ 2 ∷ 0x43 ∷ 0xba ∷ 0xb2 ∷ 0x98 ∷ 0xe8 ∷ 0xba ∷ []))
    (limits_of 1 0 10)) ≡ At 64 ∷ At 68 ∷ Stopped Quit ∷ [])

-- a story begins at its first instruction, with no step made, in one frame (section 5.5)
abbrev pub BeginsAtTheFirstInstruction : Type 0
BeginsAtTheFirstInstruction =
    ((starts prints_and_quits (limits_of 3 4 10)).state.pc ≡ 64)
    × ((starts prints_and_quits (limits_of 3 4 10)).state.steps ≡ 0)
    × ((starts prints_and_quits (limits_of 3 4 10)).state.game.frames ≡ first_frames 3 4)
    × ((starts prints_and_quits (limits_of 3 4 10)).stopped ≡ None)

-- at a move nothing passes, and the machine stays as it is
abbrev pub StaysAt : Session → Move → Type 0
StaysAt s m = moved s m ≡ record { entries = []; to = s }

-- so it is with one that has stopped, and it has its stop
abbrev pub StopsForGood : Type 0
StopsForGood =
    StaysAt (with_stop (starts prints_and_quits (limits_of 1 0 10)) (Fault 67 BadOpcode)) Goes
    × StaysAt (with_stop (starts prints_and_quits (limits_of 1 0 10)) (Fault 67 BadOpcode)) (Gets (Typed [] 13))
    × ((after (replicate 2 Goes) (starts prints_and_quits (limits_of 1 0 10))).stopped ≡ Some Quit)

-- a screen of so many columns that has styles
abbrev pub on_screen_of : ℕ → Limits
on_screen_of columns = record (limits_of 1 1 10) { screen = record { columns = columns; styles = true } }

-- from 1 frame on, up to 64 undo states, from 1 to 1,000,000,000 instructions, and from 20 columns on
abbrev pub LimitsHaveRanges : Type 0
LimitsHaveRanges =
    AreInRange (record { frames = 1; words = 0; undo = 64; steps = 1; screen = plain_screen })
    × AreInRange (record { frames = 1; words = 0; undo = 0; steps = 1000000000; screen = plain_screen })
    × AreInRange (on_screen_of 20)
    × (AreInRange (on_screen_of 19) → ⊥)

-- ---- reads

-- at 64 `read_char` to the stack, at 68 `print_char` of it, at 71 `jump` to 64
abbrev pub echoes : List ℕ
echoes = story_of (0xf6 ∷ 0x7f ∷ 1 ∷ 0 ∷ 0xe5 ∷ 0xbf ∷ 0 ∷ 0x8c ∷ 0xff ∷ 0xf8 ∷ [])

-- a line is typed, and three steps lead on from there
abbrev pub types : List ℕ → List Move
types line = Gets (Typed line 13) ∷ Goes ∷ Goes ∷ Goes ∷ []

-- such a line is read, by the extra characters of the Standard, a character is shown for it, and the next read waits
abbrev pub echo : List ℕ → ℕ → List Entry
echo line c = Read None line 13 ∷ At 68 ∷ letter c ∷ At 71 ∷ At 64 ∷ []

-- each line answers one character: its first, and a new line where it has none
abbrev pub LinesAnswerReads : Type 0
LinesAnswerReads =
    passed (Goes ∷ types (codes "ab") ++ types [] ++ types (codes "z")) (starts echoes (limits_of 1 1 10))
    ≡ At 64 ∷ echo (codes "ab") 97 ++ echo [] 10 ++ echo (codes "z") 122

-- a typed line is the codes of its characters, by the extra characters of the story that reads it: "aé", in UTF-8
abbrev pub LinesAreTyped : Type 0
LinesAreTyped = codes_read (starts echoes (limits_of 1 1 10)) (97 ∷ 195 ∷ 169 ∷ []) ≡ 97 ∷ 170 ∷ []

-- steps are counted anew from an answer on, and the read itself is none of them: two lead from one to the next
abbrev pub AnswersCountAnew : Type 0
AnswersCountAnew =
    (passed (Goes ∷ types (codes "a") ++ types (codes "b")) (starts echoes (limits_of 1 1 3)) ≡ At 64
    ∷ echo (codes "a") 97 ++ echo (codes "b") 98)
    × (passed (Goes ∷ types (codes "a") ++ types (codes "b")) (starts echoes (limits_of 1 1 2)) ≡ At 64
    ∷ Read None (codes "a") 13 ∷ At 68 ∷ letter 97 ∷ At 71 ∷ Stopped (Limit 64 Steps) ∷ [])

-- a machine of a story that has answered so many reads
abbrev pub after_reads : ℕ → Session → Session
after_reads n s = record s { state = record s.state { reads = n } }

-- 16,777,216 reads are answered, and the next one is past the limit, also where there is no answer to it
abbrev pub ReadsAreLimited : Type 0
ReadsAreLimited =
    (passed (Goes ∷ types (codes "a") ++ types (codes "b"))
    (after_reads 16777215 (starts echoes (limits_of 1 1 10))) ≡ At 64 ∷ echo (codes "a") 97
    ++ Stopped (Limit 64 Reads) ∷ [])
    × (passed (Goes ∷ types (codes "a") ++ types (codes "b"))
    (after_reads 16777213 (starts echoes (limits_of 1 1 10))) ≡ At 64 ∷ echo (codes "a") 97 ++ echo (codes "b") 98)

-- `aread` at 64 with its text buffer there: byte 65 says that it holds 127 letters already, of 228. A letter would
-- stand past the story; of an empty line the count is to be stored, above the static base. An answer that is stored
-- where no word may be passes a limit. The stops have the read's address, and then nothing passes.
abbrev pub AnswersStop : Type 0
AnswersStop =
    (passed (Goes ∷ types (codes "a")) (starts (story_of (0xe4 ∷ 0x7f ∷ 64 ∷ 0 ∷ [])) (limits_of 1 1 10)) ≡ At 64
    ∷ Read None (codes "a") 13 ∷ Stopped (Fault 64 BadAddress) ∷ [])
    × (passed (Goes ∷ types []) (starts (story_of (0xe4 ∷ 0x7f ∷ 64 ∷ 0 ∷ [])) (limits_of 1 1 10)) ≡ At 64
    ∷ Read None [] 13 ∷ Stopped (Fault 64 ReadOnly) ∷ [])
    × (passed (Goes ∷ types (codes "a")) (starts echoes (limits_of 1 0 10)) ≡ At 64 ∷ Read None (codes "a") 13
    ∷ Stopped (Limit 64 Words) ∷ [])

-- a machine waits for a line or a character, and goes on from there; while it waits it stays as it is, and one that
-- does not wait takes no answer
abbrev pub MachinesWait : Type 0
MachinesWait =
    (event_waited (after (Goes ∷ []) (starts echoes (limits_of 1 1 10))).waiting ≡ Some event.Char)
    × (event_waited (after (Goes ∷ []) (starts (story_of (0xe4 ∷ 0x7f ∷ 64 ∷ 0 ∷ [])) (limits_of 1 1 10))).waiting
    ≡ Some (event.Line 64 0))
    × ((after (Goes ∷ Gets (Typed (codes "a") 13) ∷ []) (starts echoes (limits_of 1 1 10))).state.pc ≡ 68)
    × ((after (Goes ∷ Gets (Typed (codes "a") 13) ∷ []) (starts echoes (limits_of 1 1 10))).state.reads ≡ 1)
    × ((after (Goes ∷ Gets (Typed (codes "a") 13) ∷ []) (starts echoes (limits_of 1 1 10))).waiting ≡ None)
    × StaysAt (after (Goes ∷ []) (starts echoes (limits_of 1 1 10))) Goes
    × StaysAt (starts echoes (limits_of 1 1 10)) (Gets (Typed (codes "a") 13))

-- ---- the upper window and the transcript

-- at 64 `split_window` to one row, at 67 `set_window` to the upper one, at 70 `print` of "hi", at 73 `set_window` to
-- the lower one, at 76 `read_char` to the stack, at 80 `quit`
abbrev pub shows_a_row : List ℕ
shows_a_row =
    story_of (0xea ∷ 0x7f ∷ 1 ∷ 0xeb ∷ 0x7f ∷ 1 ∷ 0xb2 ∷ 0xb5 ∷ 0xc5 ∷ 0xeb ∷ 0x7f ∷ 0 ∷ 0xf6 ∷ 0x7f ∷ 1 ∷ 0
    ∷ 0xba ∷ [])

-- where the view has the upper window its row stands on a line before the read, else nothing of it is shown
abbrev pub ViewsShowRows : Type 0
ViewsShowRows =
    (passed (replicate 5 Goes ++ types (codes "x")) (begun shows_a_row 1 (limits_of 1 1 10) Upper)
    ≡ At 64 ∷ At 67 ∷ At 70 ∷ At 73 ∷ At 76 ∷ shows (codes "| hi" ++ 10 ∷ []) ++ Read None (codes "x") 13 ∷ At 80
    ∷ Stopped Quit ∷ [])
    × (passed (replicate 5 Goes ++ types (codes "x")) (begun shows_a_row 1 (limits_of 1 1 10) Plain) ≡ At 64
    ∷ At 67 ∷ At 70 ∷ At 73 ∷ At 76 ∷ Read None (codes "x") 13 ∷ At 80 ∷ Stopped Quit ∷ [])

-- past the most reads no row is shown either
abbrev pub NoViewPastTheMostReads : Type 0
NoViewPastTheMostReads =
    passed (replicate 5 Goes ++ types (codes "x"))
    (after_reads 16777216 (begun shows_a_row 1 (limits_of 1 1 10) Upper)) ≡ At 64 ∷ At 67 ∷ At 70 ∷ At 73
    ∷ At 76 ∷ Stopped (Limit 76 Reads) ∷ []

-- at 64 `output_stream` 2, at 67 `print` of "hi", at 70 `output_stream` -2, at 74 `print` of "hi", at 77 `quit`
abbrev pub scripts_once : List ℕ
scripts_once =
    story_of (0xf3 ∷ 0x7f ∷ 2 ∷ 0xb2 ∷ 0xb5 ∷ 0xc5 ∷ 0xf3 ∷ 0x3f ∷ 0xff ∷ 0xfe ∷ 0xb2 ∷ 0xb5 ∷ 0xc5 ∷ 0xba ∷ [])

-- a character on the screen, and then the same in the transcript
abbrev pub on_both : ℕ → List Entry
on_both c = letter c ∷ scripts c ∷ []

-- the transcript gets what is shown while it is on
abbrev pub ScriptsGetText : Type 0
ScriptsGetText = log_of 6 (starts scripts_once (limits_of 1 1 10)) ≡ At 64 ∷ At 67 ∷ on_both 104 ++ on_both 105
    ++ At 70 ∷ At 74 ∷ shows (codes "hi") ++ At 77 ∷ Stopped Quit ∷ []

-- at 64 `output_stream` 2, at 67 `aread` to the stack, whose text buffer at 40 has room for no letter, at 71 `quit`
abbrev pub reads_into_script : List ℕ
reads_into_script = story_of (0xf3 ∷ 0x7f ∷ 2 ∷ 0xe4 ∷ 0x7f ∷ 40 ∷ 0 ∷ 0xba ∷ [])

-- a line that a new line ended goes into the transcript with it, and one that F1 ended without (section 15, `read`)
abbrev pub EndsAreScripted : Type 0
EndsAreScripted =
    (passed (Goes ∷ Goes ∷ Gets (Typed (codes "go") 13) ∷ Goes ∷ Goes ∷ [])
    (starts reads_into_script (limits_of 1 1 10)) ≡ At 64 ∷ At 67 ∷ Read None (codes "go") 13 ∷ scripts 10 ∷ At 71
    ∷ Stopped Quit ∷ [])
    × (passed (Goes ∷ Goes ∷ Gets (Typed (codes "go") 133) ∷ Goes ∷ Goes ∷ [])
    (starts reads_into_script (limits_of 1 1 10)) ≡ At 64 ∷ At 67 ∷ Read None (codes "go") 133 ∷ At 71
    ∷ Stopped Quit ∷ [])

-- a story begins on a screen of so many columns, and is told of them and of the styles (sections 8.4 and 11.1)
abbrev pub StoriesHaveAScreen : Type 0
StoriesHaveAScreen =
    ((starts echoes (on_screen_of 40)).state.game.windows.width ≡ 40)
    × (slice_index (starts echoes (on_screen_of 40)).state.game.memory.bytes 0x23 ≡ 40)
    × (slice_index (starts echoes (on_screen_of 40)).state.game.memory.bytes 0x01 ≡ 0x1c)
    × (slice_index (starts echoes (limits_of 1 1 10)).state.game.memory.bytes 0x23 ≡ 80)
    × (slice_index (starts echoes (limits_of 1 1 10)).state.game.memory.bytes 0x01 ≡ 0x10)

-- A host gives the upper window rows, 255 at most. Those that were there stay as they are, and in the middle of a text
-- nothing changes (section 15, `split_window`).
abbrev pub HostsSplit : Type 0
HostsSplit =
    ((with_height (starts echoes (limits_of 1 1 10)) 2).state.game.windows.height ≡ 2)
    × ((with_height (starts echoes (limits_of 1 1 10)) 300).state.game.windows.height ≡ 255)
    × (row_text (with_height (after (replicate 4 Goes) (starts shows_a_row (limits_of 1 1 10))) 3).state.game.windows 1
    ≡ codes "hi")
    × (with_height (record (starts echoes (limits_of 1 1 10)) { left = Some [] }) 2
    ≡ record (starts echoes (limits_of 1 1 10)) { left = Some [] })

-- a machine whose transcript is still to get a line
abbrev pub with_due : List ℕ → Session → Session
with_due line s = record s { state = record s.state { due = line } }

-- it gets it before the next step
abbrev pub DueTextComesFirst : Type 0
DueTextComesFirst =
    (moved (with_due (codes "go") (starts prints_and_quits (limits_of 1 0 10)))
    Goes ≡ record { entries = told (on_script (codes "go")); to = starts prints_and_quits (limits_of 1 0 10) })
    × (log_of 2 (with_due (codes "go") (starts prints_and_quits (limits_of 1 0 10))) ≡ told (on_script (codes "go"))
    ++ At 64 ∷ shows (codes "abc"))

-- ---- parts of a text

-- a machine at the first `print` of "hi", where the transcript is on
abbrev pub at_print : Session
at_print = after (Goes ∷ []) (starts scripts_once (limits_of 1 1 10))

-- the address of the instruction is told once, before the first part, also before an empty one; then each part is
-- shown, and the rest with the step; past the end there is no more
abbrev pub PartsAreShown : Type 0
PartsAreShown =
    (passed (Part 1 ∷ []) at_print ≡ At 67 ∷ letter 104 ∷ [])
    × (passed (Part 2 ∷ []) at_print ≡ At 67 ∷ on_both 104)
    × (passed (Part 1 ∷ Goes ∷ Goes ∷ []) at_print ≡ At 67 ∷ on_both 104 ++ on_both 105 ++ At 70 ∷ [])
    × (passed (Goes ∷ []) (after (Part 2 ∷ []) at_print) ≡ on_both 105)
    × (passed (Part 1 ∷ Part 2 ∷ []) at_print ≡ At 67 ∷ on_both 104 ++ letter 105 ∷ [])
    × (passed (Part 5 ∷ []) at_print ≡ At 67 ∷ on_both 104 ++ on_both 105)
    × (passed (Part 5 ∷ Part 1 ∷ Goes ∷ Goes ∷ []) at_print ≡ At 67 ∷ on_both 104 ++ on_both 105 ++ At 70 ∷ [])
    × (passed (Part 0 ∷ []) at_print ≡ At 67 ∷ [])
    × (passed (Part 0 ∷ Part 0 ∷ Part 2 ∷ []) at_print ≡ At 67 ∷ on_both 104)
    × (passed (Part 2 ∷ Goes ∷ []) (starts prints_and_quits (limits_of 1 0 10)) ≡ At 64 ∷ shows (codes "abc"))
    × (passed (Part 2 ∷ []) (starts prints_and_quits (limits_of 1 0 10)) ≡ At 64 ∷ shows (codes "ab"))

-- until its step is made a machine stays at the instruction
abbrev pub PartsMakeNoStep : Type 0
PartsMakeNoStep =
    ((after (Part 1 ∷ []) at_print).state.pc ≡ 67)
    × ((after (Part 1 ∷ []) at_print).state.steps ≡ 1)
    × ((after (Part 2 ∷ []) at_print).left ≡ Some (Text 105 roman ∷ Script 105 ∷ []))
    × ((after (Part 1 ∷ Goes ∷ []) at_print).state.pc ≡ 70)
    × ((after (Part 1 ∷ Goes ∷ []) at_print).state.steps ≡ 2)
    × ((after (Part 1 ∷ Goes ∷ []) at_print).left ≡ None)
    × (parts_of (Goes ∷ Part 3 ∷ Gets (Typed [] 13) ∷ Part 0 ∷ []) ≡ 2)

-- a part of the row before a read is shown, and then the rest
abbrev pub ReadsHaveParts : Type 0
ReadsHaveParts =
    passed (replicate 4 Goes ++ Part 2 ∷ Goes ∷ types (codes "x")) (begun shows_a_row 1 (limits_of 1 1 10) Upper)
    ≡ At 64 ∷ At 67 ∷ At 70 ∷ At 73 ∷ At 76 ∷ shows (codes "| hi" ++ 10 ∷ []) ++ Read None (codes "x") 13 ∷ At 80
    ∷ Stopped Quit ∷ []

-- a machine that waits or has stopped, or whose transcript is still to get something, shows none; where no step is
-- left, and at a step that stops, it stops
abbrev pub OthersHaveNoParts : Type 0
OthersHaveNoParts =
    StaysAt (after (Goes ∷ []) (starts echoes (limits_of 1 1 10))) (Part 1)
    × StaysAt (with_stop (starts prints_and_quits (limits_of 1 0 10)) Quit) (Part 1)
    × StaysAt (with_due (codes "go") (starts prints_and_quits (limits_of 1 0 10))) (Part 1)
    × (passed (Goes ∷ Part 1 ∷ Goes ∷ []) (starts prints_and_quits (limits_of 1 0 1)) ≡ At 64
    ∷ shows (codes "abc") ++ Stopped (Limit 67 Steps) ∷ [])
    × (passed (Goes ∷ Part 1 ∷ Goes ∷ []) (starts prints_and_quits (limits_of 1 0 10)) ≡ At 64
    ∷ shows (codes "abc") ++ At 67 ∷ Stopped Quit ∷ [])
    × (passed (Goes ∷ Part 1 ∷ Goes ∷ []) (starts prints_in_routine (limits_of 2 0 10)) ≡ At 64 ∷ At 73
    ∷ Stopped (Limit 73 Words) ∷ [])

-- ---- moves that leave a clean set

-- at 64 `jump` by a global variable
abbrev pub jumps_by_variable : List ℕ
jumps_by_variable = story_of (0xac ∷ 16 ∷ [])

-- such a step leaves, where it is made
abbrev pub VariablesLeave : Type 0
VariablesLeave =
    (leaves (starts jumps_by_variable (limits_of 1 0 10)) Goes ≡ true)
    × (leaves (with_due (codes "go") (starts jumps_by_variable (limits_of 1 0 10))) Goes ≡ false)
    × (leaves (with_stop (starts jumps_by_variable (limits_of 1 0 10)) Quit) Goes ≡ false)
    × (leaves (starts prints_and_quits (limits_of 1 0 10)) Goes ≡ false)
    × (leaves (after (Goes ∷ []) (starts echoes (limits_of 1 1 10))) (Gets (Typed (codes "a") 13)) ≡ false)

-- no move leaves that prints a text or ends a story
abbrev pub OthersStay : Type 0
OthersStay = NoneLeaves (replicate 3 Goes) (starts prints_and_quits (limits_of 1 0 10))

-- ---- each device's part of a log

-- a log of all that may pass
abbrev pub whole_log : List Entry
whole_log = At 64 ∷ letter 97 ∷ scripts 98 ∷ Read (Some (228 ∷ [])) (99 ∷ []) 13 ∷ At 71 ∷ Offered (1 ∷ []) true
    ∷ Asked None None ∷ Shown Erase ∷ letter 100 ∷ Stopped Quit ∷ []

abbrev pub DevicesHaveParts : Type 0
DevicesHaveParts =
    (addresses whole_log ≡ 64 ∷ 71 ∷ [])
    × (signals whole_log ≡ Text 97 roman ∷ Script 98 ∷ Erase ∷ Text 100 roman ∷ [])
    × (shown whole_log ≡ codes "ad")
    × (scripted whole_log ≡ codes "b")
    × (answers_in whole_log ≡ Read (Some (228 ∷ [])) (99 ∷ []) 13 ∷ Offered (1 ∷ []) true ∷ Asked None None ∷ [])
    × (reads_in whole_log ≡ (Some (228 ∷ []), 99 ∷ []) ∷ [])

-- ---- routines

-- a routine with these local variables, whose caller goes on at an address
abbrev pub frame : List ℕ → ℕ → Frame
frame locals goes_on = record { locals = locals; words = 44 ∷ []; pc = goes_on; result = None; supplied = 1 }

-- the frame that a story begins in, and two routines
abbrev pub two_routines : FrameList
two_routines = record {
  current = frame (8 ∷ 9 ∷ []) 90;
  callers = frame (7 ∷ []) 70 ∷ first_frame ∷ [];
  most_frames = 3;
  most_words = 9;
}

-- the first frame has number 0, and the newest the greatest (section 15, `throw`); words of the evaluation stack are no
-- local variables (section 6.3)
abbrev pub RoutinesAreOpen : Type 0
RoutinesAreOpen =
    (locals_and_return two_routines 0 ≡ Some ([], 0))
    × (locals_and_return two_routines 1 ≡ Some (7 ∷ [], 70))
    × (locals_and_return two_routines 2 ≡ Some (8 ∷ 9 ∷ [], 90))
    × (locals_and_return two_routines 3 ≡ None)
