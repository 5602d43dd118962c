-- Instructions in the middle of what they print: what is still to come of it.
use Rattle.std.specs.Prelude.{◌≡◌, ◌≤◌, ℕ, zero, suc, Bool, true, false, List, [], ◌∷◌, ◌++◌, drop, take, Option, Some}
use Rattle.std.specs.Prelude.{None, Ok, IsOk, ◌==◌, if◌then◌else◌}
use Rattle.zk_mem.specs.Map.{MemoryMap}
use Rattle.zk_code.specs.declared.instr.Instr.{Instr}
use Rattle.zk_code.specs.declared.operands.Operand.{Operand}
use Rattle.zk_code.specs.declared.operands.Operand.TheVariants.{Large, Small, Variable}
use Rattle.zk_state.specs.Frames.{IsBounded, with_word}
use Rattle.zk_text.specs.declared.unit.Unit as text
use Rattle.zk_text.specs.declared.unit.Unit.TheVariants.{Code}
use Rattle.zk_text.specs.Extra.{ExtraTable, own_characters}
use Rattle.zk_text.specs.Places.{IsPlace, first_place, left}
use Rattle.zk_text.specs.Shown.{shown_all}
use Rattle.zk_tables.specs.Rectangles.{joined_rows, more_rows, rows_of, row_units}
use Rattle.zk_tables.specs.declared.arrays.rectangle.Rectangle.{Rectangle}
use Rattle.zk_term.specs.declared.windows.Window.{Window}
use Rattle.zk_term.specs.declared.windows.Window.TheVariants.{Lower, Upper}
use Rattle.zk_term.specs.Windows.{Windows}
use Rattle.zk_step.specs.declared.instruction.Progress.{Progress}
use Rattle.zk_step.specs.declared.instruction.Progress.TheVariants.{Done, Part}
use Rattle.zk_step.specs.declared.output.parts.Half.{Half}
use Rattle.zk_step.specs.declared.output.parts.Rest.{Rest}
use Rattle.zk_step.specs.declared.output.parts.Rest.TheVariants.{Text, Rows}
use Rattle.zk_step.specs.declared.output.streams.OpenTable.{OpenTable}
use Rattle.zk_step.specs.declared.state.ending.Output.{Output}
use Rattle.zk_step.specs.declared.state.ending.Output.TheVariants as output
use Rattle.zk_step.specs.declared.state.game_state.GameState.{GameState}
use Rattle.zk_step.specs.Effects.{effect_of}
use Rattle.zk_step.specs.Finish.{finished}
use Rattle.zk_step.specs.Instructions.{carried_out}
use Rattle.zk_step.specs.Limited.{limited_move, limited_next, text_in}
use Rattle.zk_step.specs.Silence.{IsQuiet}
use Rattle.zk_step.specs.Printing.{IsLong, IsPlainEnd, characters_of, rows_or_none, units_of, units_or_none}
use Rattle.zk_step.specs.Routing.{Signals, ends_line, no_signals, printed_if, rows_printed, selected_in, shown_if}
use Rattle.zk_step.specs.Routing.{stored_all, streamed_all, upper_printed, with_line_start}
use Rattle.zk_step.specs.Streams.{newest_of}
use Rattle.zk_step.specs.Variables.{operands_read, with_frames}

-- ---- what is still to come

-- the rows of a rectangle from a row on
abbrev pub rest_rows : MemoryMap → Rectangle → ℕ → List (List ℕ)
rest_rows m r row = drop row (rows_or_none (rows_of m r))

-- their units: before each row but the first of all stands a new line
abbrev pub row_rest : ℕ → List (List ℕ) → List text.Unit
row_rest zero rows = joined_rows rows
row_rest (suc row) rows = more_rows rows

-- a row of a rectangle, by its number: before each but the first stands a new line
abbrev pub row_line : ℕ → List ℕ → List text.Unit
row_line zero codes = row_units codes
row_line (suc row) codes = Code 13 ∷ row_units codes

abbrev pub line_end : Bool → List text.Unit
line_end true = Code 13 ∷ []
line_end false = []

-- the units that are still to come
unfoldable pub rest_units : MemoryMap → Rest → List text.Unit
rest_units m (Text place line) = units_or_none (left m place) ++ line_end line
rest_units m (Rows r row) = row_rest row (rest_rows m r row)

-- a text from a place on has a meaning; rows can be read
abbrev pub IsRest : MemoryMap → Rest → Type 0
IsRest m (Text place line) = IsPlace place × IsOk (left m place)
IsRest m (Rows r row) = IsOk (rows_of m r) × (row ≤ r.height)

-- the units that come where more is to come, or nothing
abbrev pub rest_on : MemoryMap → Bool → Rest → List text.Unit
rest_on m true rest = rest_units m rest
rest_on m false rest = []

-- a sink was given units, and others are still to come
pub record GivesSome {S : Type 0} (gave : S → S → List text.Unit → Type 0) (a b : S)
    (whole rest : List text.Unit) : Type 0 where
  pub units : List text.Unit
  pub gives : gave a b units
  pub is : whole ≡ units ++ rest

-- what an output that may be long begins with; others are shown at once
abbrev pub whole_of : Output → Option Rest
whole_of (output.Text a) = Some (Text (first_place a) false)
whole_of (output.Line a) = Some (Text (first_place a) true)
whole_of (output.Rows r) = Some (Rows r 0)
whole_of _ = None

-- ---- its route

-- rows from a row on in the upper window: each but the first of all begins in a column of the next row
abbrev pub upper_rows : Bool → ExtraTable → ℕ → ℕ → List (List ℕ) → Windows → Windows
upper_rows on t column (suc row) rows w = rows_printed on t column rows w
upper_rows on t column zero [] w = w
upper_rows on t column zero (row ∷ rows) w =
    rows_printed on t column rows (printed_if on (shown_all t (row_units row)) w)

-- the upper window gets what is still to come
unfoldable pub upper_rest : Bool → MemoryMap → ℕ → Rest → Windows → Windows
upper_rest on m column (Text place line) w =
    printed_if on (shown_all (own_characters m) (rest_units m (Text place line))) w
upper_rest on m column (Rows r row) w = upper_rows on (own_characters m) column row (rest_rows m r row) w

-- characters for the screen and the transcript, while they are on
abbrev pub streamed_text : GameState → List ℕ → Signals
streamed_text w cs = streamed_all (selected_in w.memory w) cs

-- the text of the screen and the transcript that is still to come; tables and the upper window show none
abbrev pub rest_text_by : Option OpenTable → Window → GameState → List text.Unit → Signals
rest_text_by None Lower w us = streamed_text w (shown_all (own_characters w.memory) us)
rest_text_by None Upper w us = no_signals
rest_text_by (Some t) window w us = no_signals

abbrev pub rest_text : GameState → Rest → Signals
rest_text w rest = rest_text_by (newest_of w.streams.tables) w.windows.selected w (rest_units w.memory rest)

-- a screen got the first signals of some, and the others are still to come
pub record ShowsSome {S : Type 0} (shows : S → S → Signals → Type 0) (a b : S)
    (whole later : Signals) : Type 0 where
  pub count : ℕ
  pub shown : shows a b (take count whole)
  pub is : later ≡ drop count whole

-- ---- instructions in the middle

-- What was shown so far and what is still to come make what the instruction prints: the codes for a table, ..
abbrev pub IsForTable : GameState → List ℕ → Half → Type 0
IsForTable w codes h = codes ++ stored_all (own_characters w.memory) (rest_units w.memory h.rest) ≡ stored_all
    (own_characters w.memory) (units_of w.memory h.effect.output)

-- .. a draft of the upper window, ..
abbrev pub IsForUpper : GameState → Windows → Half → Type 0
IsForUpper w draft h = upper_rest w.streams.screen w.memory w.windows.column h.rest draft ≡ upper_printed
    w.streams.screen w.memory h.effect.output w.windows

-- .. and the last line of the screen
abbrev pub IsForScreen : GameState → Half → Type 0
IsForScreen w h =
    ends_line h.at_line_start (shown_if w.streams.screen
    (shown_all (own_characters w.memory) (rest_units w.memory h.rest)))
    ≡ ends_line w.at_line_start (shown_if w.streams.screen (characters_of w.memory h.effect.output))

-- what is shown on the screen is shown once nothing can refuse the instruction any more
abbrev pub IsOnWay : Option OpenTable → Window → GameState → Instr → List ℕ → List ℕ → Windows → Half → Type 0
IsOnWay (Some t) window w i vs codes draft h = IsForTable w codes h
IsOnWay None Upper w i vs codes draft h = IsForUpper w draft h
IsOnWay None Lower w i vs codes draft h =
    IsForScreen w h × ((b : Bool) → IsOk (limited_next (finished (with_line_start b w) i vs h.effect.ending)))

abbrev pub IsUnderWay : GameState → Instr → List ℕ → List ℕ → Windows → Half → Type 0
IsUnderWay w i vs codes draft h =
    IsRest w.memory h.rest × IsPlainEnd h.effect.ending × IsOnWay (newest_of w.streams.tables) w.windows.selected
    w i vs codes draft h

-- the word of the evaluation stack that an operand has taken is given back
abbrev pub given_back : Operand → ℕ → GameState → GameState
given_back (Large x) v w = w
given_back (Small x) v w = w
given_back (Variable n) v w = if n == 0 then with_frames w (with_word w.frames v) else w

-- operands were taken of a game state within its bounds
pub record HaveTaken (os : List Operand) (taken : GameState) (vs : List ℕ) : Type 0 where
  pub found : GameState
  pub bounded : IsBounded found.frames
  pub operands : operands_read found os ≡ Ok (taken, vs)

-- An instruction has taken its operands and has made its effect, which prints; a part of that was shown. The game state
-- stands as the instruction found it, and its operands can be taken again.
pub record IsHalf (found : GameState) (i : Instr) (codes : List ℕ) (draft : Windows) (h : Half) : Type 0 where
  pub taken : GameState
  pub values : List ℕ
  pub operands : operands_read found i.operands ≡ Ok (taken, values)
  pub made : effect_of taken i values ≡ Ok (taken, h.effect)
  pub long : IsLong h.effect.output
  pub way : IsUnderWay taken i values codes draft h

-- ---- how far an instruction has come

-- it was finished, and leads on; or it is in the middle of what it prints, and the game state stands as it found it
abbrev pub IsCarriedOn : GameState → GameState → Instr → List ℕ → Windows → Progress → Type 0
IsCarriedOn found new i codes draft (Done n) =
    limited_move (carried_out found i) ≡ Ok (new, (n, text_in (limited_move (carried_out found i))))
IsCarriedOn found new i codes draft (Part h) = (new ≡ found) × IsHalf found i codes draft h

abbrev pub IsDone : Progress → Type 0
IsDone (Done n) = Unit {0}
IsDone (Part h) = ⊥

-- the text of an instruction that is still to come: all of it, or the rest
abbrev pub text_due : GameState → Instr → Option Half → Signals
text_due w i None = text_in (limited_move (carried_out w i))
text_due w i (Some h) = rest_text w h.rest

-- and what is to come then
abbrev pub text_then : GameState → Progress → Signals
text_then w (Done n) = no_signals
text_then w (Part h) = rest_text w h.rest

-- what asks something of the machine has shown nothing
abbrev pub IsQuietAs : Progress → Signals → Type 0
IsQuietAs (Done n) text = IsQuiet n text
IsQuietAs (Part h) text = Unit {0}
