-- Where an instruction's text goes (Standard, sections 7.1 and 8.6).
use Rattle.std.specs.Prelude.{Bool, true, false, ℕ, ◌+◌, List, [], ◌∷◌, ◌++◌, length, Option, Some, None, Result, Ok}
use Rattle.std.specs.Prelude.{Err, if◌then◌else◌, ◌==◌, ◌||◌, ◌/◌, ◌%◌, is_some, map, unwrap_or}
use Rattle.zk_mem.specs.declared.fault.Fault.{Fault}
use Rattle.zk_mem.specs.Map.{MemoryMap, byte_at}
use Rattle.zk_mem.specs.Results.{◌>>=◌}
use Rattle.zk_text.specs.declared.unit.Unit as text
use Rattle.zk_text.specs.declared.unit.Unit.TheVariants as unit
use Rattle.zk_text.specs.Extra.{ExtraTable, own_characters, character, code_of}
use Rattle.zk_text.specs.Shown.{shown_all}
use Rattle.zk_term.specs.declared.windows.Window.{Window}
use Rattle.zk_term.specs.declared.windows.Window.TheVariants.{Lower, Upper}
use Rattle.zk_term.specs.Signals.{Signal}
use Rattle.zk_term.specs.Signals.Signal.{Text, Script, Erase, Beep}
use Rattle.zk_term.specs.Styles.{roman}
use Rattle.zk_term.specs.declared.style.Style.{Style}
use Rattle.zk_term.specs.Windows.{Windows, printed, next_row}
use Rattle.zk_tables.specs.Rectangles.{rows_of, row_units}
use Rattle.zk_tables.specs.Runs.{bytes_put}
use Rattle.zk_step.specs.declared.state.ending.Output.{Output}
use Rattle.zk_step.specs.declared.output.printer.Selected.{Selected}
use Rattle.zk_step.specs.declared.state.ending.Output.TheVariants.{Nothing, Status, Rows, Erasure, Bleep}
use Rattle.zk_step.specs.declared.output.streams.OpenTable.{OpenTable}
use Rattle.zk_step.specs.declared.state.game_state.GameState.{GameState}
use Rattle.zk_step.specs.Printing.{units_of, characters_of, rows_or_none}
use Rattle.zk_step.specs.Selecting.{flags_2, with_streams}
use Rattle.zk_step.specs.Status.{status_units}
use Rattle.zk_step.specs.Streams.{counted, newest_of}
use Rattle.zk_step.specs.Variables.{with_memory}

-- what a step gives to a screen, in order
abbrev pub Signals : Type 0
Signals = List Signal

-- nothing is shown
abbrev pub no_signals : Signals
no_signals = []

-- characters on the screen, in no style
abbrev pub on_screen : List ℕ → Signals
on_screen characters = map (λ (c : ℕ). Text c roman) characters

-- characters for the transcript
abbrev pub on_script : List ℕ → Signals
on_script characters = map Script characters

-- ---- the screen's last character

-- whether the last character that the screen got is a new line, once it got some more
unfoldable pub ends_line : Bool → List ℕ → Bool
ends_line at_start [] = at_start
ends_line at_start (c ∷ cs) = ends_line (c == 10) cs

-- a game state whose screen's last character is a new line, or another
abbrev pub with_line_start : Bool → GameState → GameState
with_line_start b w = record w { at_line_start = b }

-- a game state whose screen got characters
abbrev pub with_shown : List ℕ → GameState → GameState
with_shown cs w = with_line_start (ends_line w.at_line_start cs) w

-- a new line, unless the last character was one
abbrev pub fresh_line : Bool → List ℕ
fresh_line true = []
fresh_line false = 10 ∷ []

-- ---- stream 3

-- a code as a table gets it: a question mark where it has no character
abbrev pub code_stored : ExtraTable → ℕ → List ℕ
code_stored t code =
    if code == 0 then []
    else if code == 9 || (code == 11 || (code == 13 || is_some (character t code))) then code ∷ []
    else 63 ∷ []

-- a unit as codes for a table (section 7.1.2.2)
unfoldable pub unit_stored : ExtraTable → text.Unit → List ℕ
unit_stored t (unit.Code code) = code_stored t code
unit_stored t (unit.Character c) = unwrap_or (code_of t c) 63 ∷ []

-- units as codes for a table
unfoldable pub stored_all : ExtraTable → List text.Unit → List ℕ
stored_all t [] = []
stored_all t (u ∷ us) = unit_stored t u ++ stored_all t us

-- the newest table gets codes after those that it has, all of them known before the first is stored
abbrev pub table_filled : GameState → OpenTable → List ℕ → Result GameState Fault
table_filled w t codes =
    bytes_put w.memory (t.address + 2 + t.count) codes >>= λ m.
    Ok (with_streams (with_memory w m) (record w.streams { tables = counted (length codes) w.streams.tables }))

-- ---- the upper window

-- characters are printed there while stream 1 is on
abbrev pub printed_if : Bool → List ℕ → Windows → Windows
printed_if on cs w = if on then printed cs w else w

-- further rows, each below the one before it and from the same column on
unfoldable pub rows_printed : Bool → ExtraTable → ℕ → List (List ℕ) → Windows → Windows
rows_printed on t column [] w = w
rows_printed on t column (row ∷ rows) w =
    rows_printed on t column rows (printed_if on (shown_all t (row_units row)) (next_row column w))

-- rows from the cursor on
abbrev pub rectangle_printed : Bool → ExtraTable → List (List ℕ) → Windows → Windows
rectangle_printed on t [] w = w
rectangle_printed on t (row ∷ rows) w = rows_printed on t w.column rows (printed_if on (shown_all t (row_units row)) w)

-- the upper window gets what is printed
unfoldable pub upper_printed : Bool → MemoryMap → Output → Windows → Windows
upper_printed on m (Rows r) w = rectangle_printed on (own_characters m) (rows_or_none (rows_of m r)) w
upper_printed on m output w = printed_if on (characters_of m output) w

-- ---- streams 1 and 2

-- some, or none
abbrev pub shown_if : {A : Type 0} → Bool → List A → List A
shown_if {A} on xs = if on then xs else []

-- bit 0 of a byte is set, and bit 1
abbrev pub is_bit_0_set : Result ℕ Fault → Bool
is_bit_0_set (Ok flags) = flags % 2 == 1
is_bit_0_set (Err f) = false

abbrev pub is_bit_1_set : Result ℕ Fault → Bool
is_bit_1_set (Ok flags) = flags / 2 % 2 == 1
is_bit_1_set (Err f) = false

-- the transcript is on (section 7.4)
unfoldable pub script_is_on : MemoryMap → Bool
script_is_on m = is_bit_0_set (byte_at m flags_2)

-- the style that is set, with a fixed pitch where the font has one, and while bit 1 of Flags 2 is set (sections 8.1.2,
-- 8.7.1 and 11.1.2)
unfoldable pub style_shown : MemoryMap → Windows → Style
style_shown m w = record w.style { fixed = w.style.fixed || w.fixed_font || is_bit_1_set (byte_at m flags_2) }

-- the streams that are on, and the style of the text that they get
abbrev pub selected_in : MemoryMap → GameState → Selected
selected_in found w = record {
  screen = w.streams.screen;
  script = script_is_on found;
  style = style_shown found w.windows;
}

-- a character on the streams that are on
abbrev pub character_streamed : Selected → ℕ → Signals
character_streamed on c = shown_if on.screen (Text c on.style ∷ []) ++ shown_if on.script (Script c ∷ [])

-- characters there, one after the other
unfoldable pub streamed_all : Selected → List ℕ → Signals
streamed_all on [] = []
streamed_all on (c ∷ cs) = character_streamed on c ++ streamed_all on cs

-- the screen and the transcript get characters while they are on
abbrev pub streamed : MemoryMap → GameState → List ℕ → GameState × Signals
streamed found w cs = (with_shown (shown_if w.streams.screen cs) w, streamed_all (selected_in found w) cs)

-- ---- the route of a text

-- text of the lower window goes to the screen and the transcript, text of the upper one to its grid
abbrev pub routed_to : Window → MemoryMap → GameState → Output → Result (GameState × Signals) Fault
routed_to Lower found w output = Ok (streamed found w (characters_of found output))
routed_to Upper found w output =
    Ok (record w { windows = upper_printed w.streams.screen found output w.windows }, no_signals)

-- while a table is open it alone gets the text
abbrev pub routed_by : Option OpenTable → MemoryMap → GameState → Output → Result (GameState × Signals) Fault
routed_by None found w output = routed_to w.windows.selected found w output
routed_by (Some t) found w output =
    table_filled w t (stored_all (own_characters found) (units_of found output)) >>= λ w'. Ok (w', no_signals)

-- the status line stands on a line of its own
abbrev pub status_shown : MemoryMap → GameState → Result (List text.Unit) Fault → Result (GameState × Signals) Fault
status_shown found w (Err f) = Err f
status_shown found w (Ok units) =
    Ok (
      with_line_start true w,
      on_screen (fresh_line w.at_line_start ++ shown_all (own_characters found) units
          ++ 10 ∷ []),
    )

-- What is printed is read from memory as the instruction found it. The status line is no printed text: it goes to the
-- screen whatever the streams and windows are, and so do erasures and bleeps.
unfoldable pub routed : MemoryMap → GameState → Output → Result (GameState × Signals) Fault
routed found w Nothing = Ok (w, no_signals)
routed found w Status = status_shown found w (status_units found)
routed found w Erasure = Ok (w, Erase ∷ [])
routed found w (Bleep bleep) = Ok (w, Beep bleep ∷ [])
routed found w output = routed_by (newest_of w.streams.tables) found w output

-- the texts of a route, none of one that is refused
abbrev pub text_routed : Result (GameState × Signals) Fault → Signals
text_routed (Ok r) = r.1
text_routed (Err f) = no_signals
