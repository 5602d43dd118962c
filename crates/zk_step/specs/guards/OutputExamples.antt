-- Worked examples of streams, windows, tables and random numbers: what the Standard says of small cases, worked out by
-- hand.
use Rattle.std.specs.Prelude.{◌≡◌, ℕ, Bool, true, false, List, [], ◌∷◌, ◌++◌, Option, Some, None, Ok, Err, replicate}
use Rattle.std.specs.Prelude.{codes}
use Rattle.zk_mem.specs.declared.fault.Fault.TheVariants.{BadAddress, StreamDepth}
use Rattle.zk_mem.specs.Map.{MemoryMap}
use Rattle.zk_text.specs.declared.unit.Unit.TheVariants as unit
use Rattle.zk_term.specs.declared.style.Bleep.TheVariants as sound
use Rattle.zk_term.specs.declared.style.Style.{Style}
use Rattle.zk_term.specs.declared.windows.Window.TheVariants.{Upper}
use Rattle.zk_term.specs.Signals.Signal.{Text, Script, Erase, Beep}
use Rattle.zk_term.specs.Styles.{roman}
use Rattle.zk_term.specs.Windows.{Windows, cleared, printed, split, unsplit, window_selected}
use Rattle.zk_code.specs.declared.opcode.Table.TheVariants.{ScanTable, PrintTable}
use Rattle.zk_code.specs.declared.opcode.Window.TheVariants.{SplitWindow, SetWindow, EraseLine, SetCursor, GetCursor}
use Rattle.zk_code.specs.declared.opcode.Window.TheVariants.{EraseWindow, ShowStatus, SetTextStyle, SetFont}
use Rattle.zk_code.specs.declared.opcode.Window.TheVariants.{SoundEffect}
use Rattle.zk_step.specs.declared.state.ending.Ending.TheVariants.{GoOn}
use Rattle.zk_step.specs.declared.state.ending.Output.TheVariants.{Code, Rows, Erasure, Bleep}
use Rattle.zk_step.specs.declared.state.random.Generators.{Generators}
use Rattle.zk_step.specs.declared.output.streams.OpenTable.{OpenTable}
use Rattle.zk_step.specs.declared.state.game_state.View.TheVariants as view
use Rattle.zk_step.specs.declared.state.game_state.GameState.{GameState}
use Rattle.zk_step.specs.Endings.{ends, gives, goes_on, prints}
use Rattle.zk_step.specs.guards.Examples.{first_here, memory_of, working, routine_with}
use Rattle.zk_step.specs.Random.{randomised}
use Rattle.zk_step.specs.Routing.{routed, no_signals, stored_all, ends_line, with_line_start}
use Rattle.zk_step.specs.Screens.{window_effect}
use Rattle.zk_step.specs.Selecting.{stream_selected, with_streams}
use Rattle.zk_step.specs.Streams.{OutputStreams, first_streams, opened}
use Rattle.zk_step.specs.Tables.{table_effect}
use Rattle.zk_step.specs.Variables.{with_memory}

-- ---- random numbers

-- the states of both sequences
abbrev pub states : ℕ → Option ℕ → Generators
states free predictable = record { free = free; predictable = predictable }

-- from the seed 1 on, of 100 come 75 and then 54, of 6 come 3 and then 4
abbrev pub NumbersFollowTheSeed : Type 0
NumbersFollowTheSeed =
    ((randomised (states 1 None) 100).1 ≡ 75)
    × ((randomised (randomised (states 1 None) 100).0 100).1 ≡ 54)
    × ((randomised (states 1 None) 6).1 ≡ 3)
    × ((randomised (randomised (states 1 None) 6).0 6).1 ≡ 4)

-- a range of -1 opens the predictable sequence at 1, one of -32768 at 32768; it serves, and 0 closes it: then the free
-- sequence goes on from where it was (section 15, `random`)
abbrev pub PredictableNumbersServe : Type 0
PredictableNumbersServe =
    (randomised (states 9 None) 65535 ≡ (states 9 (Some 1), 0))
    × (randomised (states 9 (Some 5)) 32768 ≡ (states 9 (Some 32768), 0))
    × ((randomised (states 9 (Some 1)) 100).1 ≡ 75)
    × ((randomised (states 9 (Some 1)) 100).0.free ≡ 9)
    × (randomised (states 9 (Some 1)) 0 ≡ (states 9 None, 0))
    × ((randomised (states 1 (Some 7)) 32767).0.free ≡ 1)

-- ---- streams

-- an open table, with how many codes it has
abbrev pub table : ℕ → ℕ → OpenTable
table address count = record { address = address; count = count }

-- streams of which stream 1 is on or off, with tables that are open
abbrev pub streams : Bool → List OpenTable → OutputStreams
streams screen tables = record { screen = screen; tables = tables }

-- tables nest 16 deep, and a 17th is refused (section 7.1.2.1.1)
abbrev pub TablesNest : Type 0
TablesNest =
    (opened first_streams 96 ≡ Ok (streams true (table 96 0 ∷ [])))
    × (opened (streams false (table 96 5 ∷ [])) 7 ≡ Ok (streams false (table 7 0 ∷ table 96 5 ∷ [])))
    × (opened (streams true (replicate 15 (table 9 1))) 96 ≡ Ok (streams true (table 96 0 ∷ replicate 15 (table 9 1))))
    × (opened (streams true (replicate 16 (table 9 1))) 96 ≡ Err StreamDepth)

-- twenty bytes, the flags of the transcript among them, at address 0x11
abbrev pub flags_of : ℕ → MemoryMap
flags_of flags = memory_of 5 (replicate 17 0 ++ flags ∷ 0 ∷ 0 ∷ [])

-- a routine with this memory and these streams
abbrev pub streaming : MemoryMap → OutputStreams → GameState
streaming m s = with_streams (working m (routine_with [] [] None) []) s

-- one whose text style is set
abbrev pub styled : MemoryMap → Style → GameState
styled m style =
    record (streaming m first_streams) { windows = record first_here { style = style } }

-- a number selects its stream and its negative deselects it; others do nothing (section 15, `output_stream`)
abbrev pub StreamsAreSelected : Type 0
StreamsAreSelected =
    (stream_selected (streaming (flags_of 0) first_streams) (65535 ∷ []) ≡ Ok
    (streaming (flags_of 0) (streams false [])))
    × (stream_selected (streaming (flags_of 0) (streams false [])) (1 ∷ []) ≡ Ok (streaming (flags_of 0) first_streams))
    × (stream_selected (streaming (flags_of 0b10100010) first_streams) (2 ∷ []) ≡ Ok
    (streaming (flags_of 0b10100011) first_streams))
    × (stream_selected (streaming (flags_of 0b10100011) first_streams) (65534 ∷ []) ≡ Ok
    (streaming (flags_of 0b10100010) first_streams))
    × (stream_selected (streaming (flags_of 1) first_streams) (0 ∷ []) ≡ Ok (streaming (flags_of 1) first_streams))
    × (stream_selected (streaming (flags_of 1) first_streams) (4 ∷ []) ≡ Ok (streaming (flags_of 1) first_streams))

-- stream 3 opens the table that is named and stores nothing there; without a table it is refused, but after its depth
abbrev pub TablesAreOpened : Type 0
TablesAreOpened =
    (stream_selected (streaming (flags_of 0) first_streams) (3 ∷ 4 ∷ []) ≡ Ok
    (streaming (flags_of 0) (streams true (table 4 0 ∷ []))))
    × (stream_selected (streaming (flags_of 0) first_streams) (3 ∷ []) ≡ Err BadAddress)
    × (stream_selected (streaming (flags_of 0) (streams true (replicate 16 (table 9 1)))) (3 ∷ []) ≡ Err StreamDepth)

-- closing stores the count in the table's first word; where none is open nothing happens (section 7.1.2.1)
abbrev pub TablesAreClosed : Type 0
TablesAreClosed =
    (stream_selected (streaming (flags_of 0) (streams true (table 17 0x102 ∷ table 4 7 ∷ []))) (65533 ∷ []) ≡ Ok
    (streaming (memory_of 5 (replicate 17 0 ++ 1 ∷ 2 ∷ 0 ∷ [])) (streams true (table 4 7 ∷ []))))
    × (stream_selected (streaming (flags_of 0) first_streams) (65533 ∷ []) ≡ Ok (streaming (flags_of 0) first_streams))

-- a new line is stored as 13, codes of characters as they are, others as a question mark, and null not at all; a
-- Unicode character is stored as its code (section 7.1.2.2)
abbrev pub CodesAreStored : Type 0
CodesAreStored =
    (stored_all None (unit.Code 0 ∷ unit.Code 13 ∷ unit.Code 9 ∷ unit.Code 11 ∷ unit.Code 65 ∷ unit.Code 126 ∷ [])
    ≡ 13 ∷ 9 ∷ 11 ∷ 65 ∷ 126 ∷ [])
    × (stored_all None (unit.Code 10 ∷ unit.Code 27 ∷ unit.Code 127 ∷ unit.Code 154 ∷ unit.Code 224
    ∷ unit.Code 252 ∷ unit.Code 321 ∷ []) ≡ replicate 7 63)
    × (stored_all None (unit.Code 155 ∷ unit.Code 223 ∷ []) ≡ 155 ∷ 223 ∷ [])
    × (stored_all None (unit.Character 228 ∷ unit.Character 65 ∷ unit.Character 0x20ac ∷ unit.Character 13 ∷ [])
    ≡ 155 ∷ 65 ∷ 63 ∷ 63 ∷ [])

-- the last character that came says whether the screen stands at the begin of a line
abbrev pub LinesBegin : Type 0
LinesBegin = (ends_line true [] ≡ true) × (ends_line false [] ≡ false) × (ends_line true (65 ∷ []) ≡ false)
    × (ends_line false (65 ∷ 10 ∷ []) ≡ true) × (ends_line true (10 ∷ 65 ∷ []) ≡ false)

-- while a table is open it alone gets the text, after what it has (section 7.1.2.1)
abbrev pub OpenTablesTakeText : Type 0
OpenTablesTakeText =
    routed (flags_of 1) (streaming (flags_of 1) (streams true (table 13 3 ∷ table 2 0 ∷ []))) (Code 65)
    ≡ Ok (
      streaming (memory_of 5 (replicate 17 0 ++ 1 ∷ 65 ∷ 0 ∷ []))
          (streams true (table 13 4 ∷ table 2 0 ∷ [])),
      no_signals,
    )

-- text of the lower window goes to the screen while stream 1 is on, and to the transcript while its flag is set
abbrev pub StreamsShowText : Type 0
StreamsShowText =
    (routed (flags_of 1) (streaming (flags_of 1) first_streams) (Code 65) ≡ Ok (
      with_line_start false (streaming (flags_of 1) first_streams),
      Text 65 roman ∷ Script 65 ∷ [],
    ))
    × (routed (flags_of 0xfc) (streaming (flags_of 0xfc) first_streams) (Code 65) ≡ Ok
    (with_line_start false (streaming (flags_of 0xfc) first_streams), Text 65 roman ∷ []))
    × (routed (flags_of 1) (streaming (flags_of 1) (streams false [])) (Code 65) ≡ Ok
    (streaming (flags_of 1) (streams false []), Script 65 ∷ []))

-- bold and italic
abbrev pub emphatic : Style
emphatic = record roman { bold = true; italic = true }

-- text is shown in the style that is set, and with a fixed pitch while bit 1 of Flags 2 is set; the transcript has no
-- styles, and erasures and bleeps don't ask for streams (sections 8.7.1, 9.1 and 11.1.2)
abbrev pub StylesAreShown : Type 0
StylesAreShown =
    (routed (flags_of 1) (styled (flags_of 1) emphatic) (Code 65) ≡ Ok
    (with_line_start false (styled (flags_of 1) emphatic), Text 65 emphatic ∷ Script 65 ∷ []))
    × (routed (flags_of 2) (styled (flags_of 2) emphatic) (Code 65) ≡ Ok
    (with_line_start false (styled (flags_of 2) emphatic), Text 65 (record emphatic { fixed = true }) ∷ []))
    × (routed (flags_of 0xfd) (styled (flags_of 0xfd) (record roman { fixed = true })) (Code 13) ≡ Ok
    (styled (flags_of 0xfd) (record roman { fixed = true }), Text 10 (record roman { fixed = true }) ∷ Script 10 ∷ []))
    × (routed (flags_of 0) (streaming (flags_of 0) (streams false (table 4 0 ∷ []))) Erasure ≡ Ok
    (streaming (flags_of 0) (streams false (table 4 0 ∷ [])), Erase ∷ []))
    × (routed (flags_of 1) (streaming (flags_of 1) first_streams) (Bleep sound.Low) ≡ Ok
    (streaming (flags_of 1) first_streams, Beep sound.Low ∷ []))

-- ---- windows

-- a routine with these windows
abbrev pub with_windows : Windows → GameState
with_windows w = record (streaming (flags_of 1) first_streams) { windows = w }

-- the upper window is selected, and has three rows
abbrev pub upper_selected : Windows
upper_selected = window_selected Upper (split 5 3 first_here)

-- text of the upper window goes to its grid alone, and while stream 1 is off nowhere (section 8.6)
abbrev pub UpperTextStaysThere : Type 0
UpperTextStaysThere =
    (routed (flags_of 1) (with_windows upper_selected) (Code 65) ≡ Ok
    (with_windows (printed (codes "A") upper_selected), no_signals))
    × (routed (flags_of 1) (with_streams (with_windows upper_selected) (streams false [])) (Code 13) ≡ Ok
    (with_streams (with_windows upper_selected) (streams false []), no_signals))

-- a table is searched by words of two bytes, unless a form is given; what is found is given and tested (section 15,
-- `scan_table`)
abbrev pub TablesAreSearched : Type 0
TablesAreSearched =
    (table_effect ScanTable (streaming (memory_of 5 (1 ∷ 2 ∷ 3 ∷ 4 ∷ [])) first_streams) (0x304 ∷ 0 ∷ 2 ∷ []) ≡ Ok
    (streaming (memory_of 5 (1 ∷ 2 ∷ 3 ∷ 4 ∷ [])) first_streams, ends (GoOn (Some 2) (Some true))))
    × (table_effect ScanTable (streaming (memory_of 5 (1 ∷ 2 ∷ 3 ∷ 4 ∷ [])) first_streams)
    (1 ∷ 0 ∷ 4 ∷ 1 ∷ []) ≡ Ok (
      streaming (memory_of 5 (1 ∷ 2 ∷ 3 ∷ 4 ∷ [])) first_streams,
      ends (GoOn (Some 0) (Some true)),
    ))
    × (table_effect ScanTable (streaming (memory_of 5 (1 ∷ 2 ∷ 3 ∷ 4 ∷ [])) first_streams)
    (0x203 ∷ 0 ∷ 2 ∷ []) ≡ Ok (
      streaming (memory_of 5 (1 ∷ 2 ∷ 3 ∷ 4 ∷ [])) first_streams,
      ends (GoOn (Some 0) (Some false)),
    ))

-- a rectangle has one row and skips nothing, unless it is said (section 15, `print_table`)
abbrev pub RectanglesArePrinted : Type 0
RectanglesArePrinted =
    (table_effect PrintTable (streaming (flags_of 0) first_streams) (2 ∷ 5 ∷ []) ≡ Ok
    (streaming (flags_of 0) first_streams, prints (Rows (record { text = 2; width = 5; height = 1; skip = 0 }))))
    × (table_effect PrintTable (streaming (flags_of 0) first_streams) (2 ∷ 5 ∷ 3 ∷ 1 ∷ []) ≡ Ok
    (streaming (flags_of 0) first_streams, prints (Rows (record { text = 2; width = 5; height = 3; skip = 1 }))))
    × (table_effect PrintTable (streaming (flags_of 0) first_streams) (2 ∷ 5 ∷ 4 ∷ 0 ∷ []) ≡ Err BadAddress)

-- windows are split, selected, erased and have their cursor set by the operands of their opcodes; a negative row is the
-- first, and in the lower window the cursor stays (section 15)
abbrev pub WindowsAreChanged : Type 0
WindowsAreChanged =
    (window_effect SplitWindow (with_windows first_here) (3 ∷ []) ≡ Ok
    (with_windows (split 5 3 first_here), goes_on))
    × (window_effect SetWindow (with_windows first_here) (2 ∷ []) ≡ Ok (with_windows first_here, goes_on))
    × (window_effect SetCursor (with_windows first_here) (2 ∷ 3 ∷ []) ≡ Ok (with_windows first_here, goes_on))
    × (window_effect SetCursor (with_windows upper_selected) (65535 ∷ 3 ∷ []) ≡ Ok
    (with_windows (record upper_selected { row = 1; column = 3 }), goes_on))
    × (window_effect SetCursor (with_windows upper_selected) (2 ∷ 0 ∷ []) ≡ Ok
    (with_windows (record upper_selected { row = 2; column = 1 }), goes_on))
    × (window_effect EraseLine (with_windows upper_selected) (2 ∷ []) ≡ Ok (with_windows upper_selected, goes_on))

-- window 0 is the lower one, 1 the upper one, -1 and -2 are the whole screen; -1 takes the upper window away (section
-- 8.7.3)
abbrev pub WindowsAreErased : Type 0
WindowsAreErased =
    (window_effect EraseWindow (with_windows upper_selected) (0 ∷ []) ≡ Ok (
      with_windows upper_selected,
      prints
          Erasure,
    ))
    × (window_effect EraseWindow (with_windows upper_selected) (1 ∷ []) ≡ Ok
    (with_windows (cleared upper_selected), goes_on))
    × (window_effect EraseWindow (with_windows upper_selected) (65535 ∷ []) ≡ Ok
    (with_windows (unsplit upper_selected), prints Erasure))
    × (window_effect EraseWindow (with_windows upper_selected) (65534 ∷ []) ≡ Ok
    (with_windows (cleared upper_selected), prints Erasure))
    × (window_effect EraseWindow (with_windows upper_selected) (2 ∷ []) ≡ Ok (with_windows upper_selected, goes_on))

-- Styles are added up until roman is set; fonts 0 and 1 are there and 4 is not; sounds 1 and 2 are bleeps, a high and a
-- low one, and there are no others (sections 8.7.1, 9.1 and 15)
abbrev pub StylesFontsAndBleeps : Type 0
StylesFontsAndBleeps =
    (window_effect SetTextStyle (with_windows first_here) (2 ∷ []) ≡ Ok
    (with_windows (record first_here { style = record roman { bold = true } }), goes_on))
    × (window_effect SetTextStyle (with_windows (record first_here { style = record roman { bold = true } }))
    (4 ∷ []) ≡ Ok (with_windows (record first_here { style = emphatic }), goes_on))
    × (window_effect SetTextStyle (with_windows (record first_here { style = emphatic })) (0 ∷ []) ≡ Ok
    (with_windows first_here, goes_on))
    × (window_effect SetTextStyle (with_windows first_here) (9 ∷ []) ≡ Ok
    (with_windows (record first_here { style = record roman { reverse = true; fixed = true } }), goes_on))
    × (window_effect SetFont (with_windows first_here) (1 ∷ []) ≡ Ok (with_windows first_here, gives 1))
    × (window_effect SetFont (with_windows first_here) (0 ∷ []) ≡ Ok (with_windows first_here, gives 1))
    × (window_effect SetFont (with_windows first_here) (4 ∷ []) ≡ Ok (with_windows first_here, gives 0))
    × (window_effect SoundEffect (with_windows first_here) (1 ∷ []) ≡ Ok
    (with_windows first_here, prints (Bleep sound.High)))
    × (window_effect SoundEffect (with_windows first_here) (2 ∷ 3 ∷ []) ≡ Ok
    (with_windows first_here, prints (Bleep sound.Low)))
    × (window_effect SoundEffect (with_windows first_here) (3 ∷ []) ≡ Ok (with_windows first_here, goes_on))
    × (window_effect SoundEffect (with_windows first_here) [] ≡ Ok (with_windows first_here, goes_on))

-- a game state whose story is told that there are styles
abbrev pub told_of_styles : GameState → GameState
told_of_styles w = with_memory w (record w.memory {
  setup = record { undo_states = 0; screen = record { columns = 80; styles = true } };
})

-- the same with a font of a fixed pitch in the lower window
abbrev pub in_fixed_font : GameState
in_fixed_font = told_of_styles (with_windows (record first_here { fixed_font = true }))

-- where a story is told of styles, font 4 is there: the font that was set before is told, and the upper window always
-- has that one; text is shown with a fixed pitch while it is set (sections 8.1.2, 8.7.2 and 15)
abbrev pub FontsOfAFixedPitch : Type 0
FontsOfAFixedPitch =
    (window_effect SetFont (told_of_styles (with_windows first_here)) (4 ∷ []) ≡ Ok (in_fixed_font, gives 1))
    × (window_effect SetFont in_fixed_font (1 ∷ []) ≡ Ok (told_of_styles (with_windows first_here), gives 4))
    × (window_effect SetFont in_fixed_font (0 ∷ []) ≡ Ok (in_fixed_font, gives 4))
    × (window_effect SetFont in_fixed_font (3 ∷ []) ≡ Ok (in_fixed_font, gives 0))
    × (window_effect SetFont (told_of_styles (with_windows upper_selected)) (1 ∷ []) ≡ Ok
    (told_of_styles (with_windows upper_selected), gives 4))
    × (routed (flags_of 0) in_fixed_font (Code 65) ≡ Ok
    (with_line_start false in_fixed_font, Text 65 (record roman { fixed = true }) ∷ []))

-- row and column of the cursor are stored in two words, the row first (section 15, `get_cursor`)
abbrev pub CursorsAreTold : Type 0
CursorsAreTold =
    (window_effect GetCursor (with_windows (record upper_selected { row = 256; column = 81 })) (2 ∷ [])
    ≡ Ok (
      with_memory (with_windows (record upper_selected { row = 256; column = 81 }))
          (memory_of 5 (0 ∷ 0 ∷ 1 ∷ 0 ∷ 0 ∷ 81 ∷ replicate 11 0 ++ 1 ∷ 0 ∷ 0 ∷ [])),
      goes_on,
    ))
    × (window_effect GetCursor (with_windows first_here) (18 ∷ []) ≡ Err BadAddress)

-- without the view no status line is shown, nor in version 5
abbrev pub StatusLinesNeedTheView : Type 0
StatusLinesNeedTheView =
    (window_effect ShowStatus (with_windows first_here) [] ≡ Ok (with_windows first_here, goes_on))
    × (window_effect ShowStatus (record (with_windows first_here) { view = view.Upper }) [] ≡ Ok
    (record (with_windows first_here) { view = view.Upper }, goes_on))
