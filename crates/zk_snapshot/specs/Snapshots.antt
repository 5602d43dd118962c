-- The bytes of a snapshot: a machine that waits for a line or a character. Numbers have their high byte first.
use Rattle.std.specs.Prelude.{ℕ, zero, suc, ◌+◌, ◌-◌, ◌*◌, ◌/◌, ◌%◌, Bool, true, false, List, [], ◌∷◌, ◌++◌, length}
use Rattle.std.specs.Prelude.{take, reverse, nat_le, if◌then◌else◌, Option, Some, None}
use Rattle.std.specs.List.{flat_map}
use Rattle.zk_mem.specs.declared.memory.ScreenSetup.{ScreenSetup}
use Rattle.zk_mem.specs.Header.{header_of}
use Rattle.zk_state.specs.Frames.{Frame, frames_of}
use Rattle.zk_save.specs.Quetzal.{bytes_2, bytes_4, words_bytes}
use Rattle.zk_save.specs.States.{WholeState, packed_of}
use Rattle.zk_term.specs.Windows.{Windows, row_cells}
use Rattle.zk_term.specs.declared.style.Style.{Style}
use Rattle.zk_term.specs.declared.windows.Cell.{Cell}
use Rattle.zk_term.specs.declared.windows.Window.{Window}
use Rattle.zk_term.specs.declared.windows.Window.TheVariants.{Lower, Upper as UpperWindow}
use Rattle.zk_step.specs.declared.state.ending.Event.{Event}
use Rattle.zk_step.specs.declared.state.ending.Event.TheVariants.{Line, Char, Save, Restore}
use Rattle.zk_step.specs.declared.state.game_state.GameState.{GameState}
use Rattle.zk_step.specs.declared.state.game_state.View.{View}
use Rattle.zk_step.specs.declared.state.game_state.View.TheVariants.{Plain, Upper}
use Rattle.zk_step.specs.declared.state.random.Generators.{Generators}
use Rattle.zk_step.specs.declared.output.streams.OpenTable.{OpenTable}
use Rattle.zk_step.specs.Streams.{OutputStreams}
use Rattle.zk_vm.specs.declared.limits.Limits.{Limits}
use Rattle.zk_vm.specs.declared.machine.parts.Asking.{Asking}
use Rattle.zk_vm.specs.declared.machine.parts.Place.{Place}
use Rattle.zk_vm.specs.Sessions.{Session}
use Rattle.zk_vm.specs.Parts.{asking_of, place_of}
use Rattle.zk_vm.specs.Plays.{AsksForLine}
use Rattle.zk_snapshot.specs.Sums.{sum_of}

-- ---- numbers and choices

-- a number of eight bytes
abbrev pub bytes_8 : ℕ → List ℕ
bytes_8 n = bytes_4 (n / 4294967296) ++ bytes_4 (n % 4294967296)

-- 1 for a truth, 0 for a falsehood
abbrev pub truth_byte : Bool → ℕ
truth_byte true = 1
truth_byte false = 0

-- a variable that takes a result, after a 1; two zeros where the result is dropped
unfoldable pub store_bytes : Option ℕ → List ℕ
store_bytes None = 0 ∷ 0 ∷ []
store_bytes (Some v) = 1 ∷ v ∷ []

-- the state of a generator, after a 1; zeros where it is closed
unfoldable pub state_bytes : Option ℕ → List ℕ
state_bytes None = 0 ∷ [] ++ bytes_8 0
state_bytes (Some n) = 1 ∷ [] ++ bytes_8 n

-- ---- the story

-- the four letters ZKSN
abbrev pub name_bytes : List ℕ
name_bytes = 90 ∷ 75 ∷ 83 ∷ 78 ∷ []

-- the version of the format
abbrev pub version_byte : ℕ
version_byte = 4

-- what a story's file is known by, in 18 bytes: its length, its release, its serial number, its checksum, and the sum
-- of all its bytes
unfoldable pub story_bytes : List ℕ → List ℕ
story_bytes file = bytes_4 (length file) ++ bytes_2 (header_of file).release ++ (header_of file).serial
    ++ bytes_2 (header_of file).checksum ++ bytes_4 (sum_of file)

-- ---- the machine

-- what a story is told of its screen, in 2 bytes: its columns, and whether it has styles
abbrev pub screen_bytes : ScreenSetup → List ℕ
screen_bytes s = s.columns ∷ truth_byte s.styles ∷ []

-- limits, in 11 bytes: frames, words, states to go back to, steps, and the screen
unfoldable pub limits_bytes : Limits → List ℕ
limits_bytes l = bytes_2 l.frames ++ bytes_2 l.words ++ l.undo ∷ [] ++ bytes_4 l.steps
    ++ screen_bytes l.screen

-- where the run stands, in 12 bytes: the program counter, steps, reads
unfoldable pub place_bytes : Place → List ℕ
place_bytes p = bytes_4 p.pc ++ bytes_4 p.steps ++ bytes_4 p.reads

-- what is waited for, in 5 bytes: 1 with the addresses of the text buffer and the parse buffer for a line, 2 and zeros
-- for a character; a machine that waits for a saved game has no snapshot
unfoldable pub event_bytes : Event → List ℕ
event_bytes (Line text parse) = 1 ∷ [] ++ bytes_2 text ++ bytes_2 parse
event_bytes Char = 2 ∷ [] ++ bytes_2 0 ++ bytes_2 0
event_bytes Save = 3 ∷ [] ++ bytes_2 0 ++ bytes_2 0
event_bytes Restore = 4 ∷ [] ++ bytes_2 0 ++ bytes_2 0

-- what is asked for, in 11 bytes: the event, the address after the instruction that waits, and what takes its result
unfoldable pub asking_bytes : Option Asking → List ℕ
asking_bytes None = []
asking_bytes (Some a) = event_bytes a.event ++ bytes_4 a.next ++ store_bytes a.store

-- ---- the game state

-- what is shown of the upper window and the status line
abbrev pub view_byte : View → ℕ
view_byte Plain = 0
view_byte Upper = 1

-- the window that is selected
abbrev pub window_byte : Window → ℕ
window_byte Lower = 0
window_byte UpperWindow = 1

-- a text style, by the number that sets it
unfoldable pub style_byte : Style → ℕ
style_byte s = truth_byte s.reverse + 2 * truth_byte s.bold + 4 * truth_byte s.italic + 8 * truth_byte s.fixed

-- the random numbers, in 17 bytes
unfoldable pub generators_bytes : Generators → List ℕ
generators_bytes g = bytes_8 g.free ++ state_bytes g.predictable

-- a cell, in four bytes: its text style, and its character in three
abbrev pub cell_bytes : Cell → List ℕ
cell_bytes c = style_byte c.style ∷ c.character / 65536 ∷ bytes_2 (c.character % 65536)

-- a row: the number of its cells up to the last that is not empty, and these
unfoldable pub row_bytes : List Cell → List ℕ
row_bytes cells = length cells ∷ [] ++ flat_map cell_bytes cells

-- so many rows of the grid, from the first on
unfoldable pub rows_bytes : ℕ → Windows → List ℕ
rows_bytes zero w = []
rows_bytes (suc n) w = rows_bytes n w ++ row_bytes (row_cells w (suc n))

-- the windows: the upper one's height, how many columns there are, the cursor's row and column, the window that is
-- selected, the text style, whether the font has a fixed pitch, and all 255 rows
unfoldable pub windows_bytes : Windows → List ℕ
windows_bytes w = w.height ∷ w.width ∷ [] ++ bytes_2 w.row ++ bytes_2 w.column ++ window_byte w.selected ∷ []
    ++ style_byte w.style ∷ truth_byte w.fixed_font ∷ [] ++ rows_bytes 255 w

-- a frame: the address that it returns to, what takes its result, how many arguments it was given, how many local
-- variables and words on its evaluation stack it has, and both
unfoldable pub frame_bytes : Frame → List ℕ
frame_bytes f = bytes_4 f.pc ++ store_bytes f.result ++ f.supplied ∷ [] ++ length f.locals ∷ []
    ++ bytes_2 (length f.words) ++ words_bytes f.locals ++ words_bytes f.words

-- frames, newest first: how many they are, and all of them, the first before the others
unfoldable pub frames_bytes : List Frame → List ℕ
frames_bytes fs = bytes_2 (length fs) ++ flat_map frame_bytes (reverse fs)

-- a table of stream 3 that is open: its address, and how many codes were stored in it
abbrev pub table_bytes : OpenTable → List ℕ
table_bytes t = bytes_2 t.address ++ bytes_2 t.count

-- the output streams: whether the screen is on, how many tables are open, and these, the newest first
unfoldable pub streams_bytes : OutputStreams → List ℕ
streams_bytes s = truth_byte s.screen ∷ length s.tables ∷ [] ++ flat_map table_bytes s.tables

-- the game state: the view, whether the screen's last line is empty, the output streams, the random numbers, the
-- windows, dynamic memory as it stands, and the frames
unfoldable pub game_bytes : GameState → List ℕ
game_bytes g = view_byte g.view ∷ truth_byte g.at_line_start ∷ [] ++ streams_bytes g.streams
    ++ generators_bytes g.generators ++ windows_bytes g.windows ++ take g.memory.static_base g.memory.bytes
    ++ frames_bytes (frames_of g.frames)

-- ---- states to go back to

-- a state: what its dynamic memory differs in from the story's file, packed, after the length of that; its frames, and
-- the address where it goes on
unfoldable pub kept_bytes : List ℕ → WholeState → List ℕ
kept_bytes file w = bytes_4 (length (packed_of file w)) ++ packed_of file w ++ frames_bytes w.frames ++ bytes_4 w.pc

-- states, newest first: how many they are, and all of them, the oldest before the others
unfoldable pub states_bytes : List ℕ → List WholeState → List ℕ
states_bytes file ws = length ws ∷ [] ++ flat_map (kept_bytes file) (reverse ws)

-- the newest states, up to the first whose bytes are more than is left of so many
unfoldable pub fitting : List ℕ → ℕ → List WholeState → List WholeState
fitting file most [] = []
fitting file most (w ∷ ws) =
    let size = length (kept_bytes file w) in
    if nat_le size most then w ∷ fitting file (most - size) ws else []

-- ---- the whole

-- the name, the version and the story, in 23 bytes
unfoldable pub head_bytes : List ℕ → List ℕ
head_bytes file = name_bytes ++ version_byte ∷ [] ++ story_bytes file

-- all but the sum, with some states to go back to
unfoldable pub body_bytes : List WholeState → Session → List ℕ
body_bytes states s =
    let file = s.state.game.memory.file in
    head_bytes file ++ limits_bytes s.limits ++ place_bytes (place_of s) ++ asking_bytes (asking_of s.waiting)
    ++ game_bytes s.state.game ++ states_bytes file states

-- bytes with their sum after them
abbrev pub with_sum : List ℕ → List ℕ
with_sum bytes = bytes ++ bytes_4 (sum_of bytes)

-- the snapshot of a machine with some states to go back to
unfoldable pub snapshot_with : List WholeState → Session → List ℕ
snapshot_with states s = with_sum (body_bytes states s)

-- the snapshot of a machine with as many of its newest states as fit in so many bytes
abbrev pub snapshot_of : ℕ → Session → List ℕ
snapshot_of most s = snapshot_with (fitting s.state.game.memory.file most s.state.undo) s

-- a machine has a snapshot where it waits for a line or a character
abbrev pub HasSnapshot : Session → Type 0
HasSnapshot s = AsksForLine s

-- the most bytes of a snapshot within limits, of a story with so many bytes of dynamic memory and with so many bytes of
-- states: 255 rows of 255 cells and 16 tables are among the others
unfoldable pub longest_of : Limits → (base most : ℕ) → ℕ
longest_of l base most = 260513 + base + 10 * l.frames + 2 * l.words + most
