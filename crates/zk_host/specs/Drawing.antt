-- What a host draws beside the text (Standard, sections 8.2, 8.6 and 8.7).
use Rattle.std.specs.Prelude.{◌≡◌, ◌⊎◌, ◌≢◌, ◌+◌, ◌-◌, ℕ, ℤ, pos, Bool, ◌&&◌, List, [], nat_le, nat_lt, Option, Some}
use Rattle.std.specs.Prelude.{None, Result, Ok, Err, if◌then◌else◌, encode_utf8_all, map}
use Rattle.std.specs.Int.{cast_signed, w16}
use Rattle.zk_mem.specs.declared.fault.Fault.{Fault}
use Rattle.zk_mem.specs.Map.{MemoryMap, byte_at}
use Rattle.zk_mem.specs.Results.{◌>>=◌}
use Rattle.zk_term.specs.Windows.{Windows, tallest_height}
use Rattle.zk_term.specs.declared.windows.Cell.{Cell}
use Rattle.zk_term.specs.declared.windows.Window.{Window}
use Rattle.zk_term.specs.declared.windows.Window.TheVariants.{Lower, Upper}
use Rattle.zk_step.specs.declared.state.ending.Event.{Event}
use Rattle.zk_step.specs.declared.state.ending.Event.TheVariants.{Line, Char, Save, Restore}
use Rattle.zk_step.specs.declared.output.status.StatusLine.{StatusLine}
use Rattle.zk_step.specs.Status.{IsLineOf, status_units}
use Rattle.zk_step.specs.TextBuffers.{is_filled}
use Rattle.zk_host.specs.Marks.{style_mark}
use Rattle.zk_host.specs.declared.drawing.StatusFigures.{StatusFigures}
use Rattle.zk_host.specs.declared.drawing.WindowFigures.{WindowFigures}

-- ---- the upper window

abbrev pub selected_number : Window → ℕ
selected_number Lower = 0
selected_number Upper = 1

abbrev pub window_of : Windows → WindowFigures
window_of w = record {
  height = w.height;
  tallest = tallest_height w;
  row = w.row;
  column = w.column;
  selected = selected_number w.selected;
  width = w.width;
}

-- rows are numbered from 1 to 255
abbrev pub row_number : ℕ → Option ℕ
row_number row = if nat_le 1 row && nat_le row 255 then Some row else None

-- the text of a row, as UTF-8; there is none off the grid
abbrev pub row_bytes : (ℕ → List ℕ) → Option ℕ → List ℕ
row_bytes text None = []
row_bytes text (Some row) = encode_utf8_all (text row)

-- the style of a cell, by the numbers that set it
abbrev pub cell_mark : Cell → ℕ
cell_mark c = style_mark c.style

-- the styles of a row's cells; there are none off the grid
abbrev pub row_styles : (ℕ → List Cell) → Option ℕ → List ℕ
row_styles cells None = []
row_styles cells (Some row) = map cell_mark (cells row)

-- ---- the status line

-- a score and turns are signed numbers, hours and minutes are not (section 8.2.3)
abbrev pub figure : Bool → ℕ → ℤ
figure is_time n = if is_time then pos n else cast_signed w16 n

abbrev pub figures_of : StatusLine → StatusFigures
figures_of s = record {
  kind = (if s.is_time then 2 else 1);
  first = figure s.is_time s.first;
  second = figure s.is_time s.second;
}

abbrev pub no_figures : StatusFigures
no_figures = record { kind = 0; first = pos 0; second = pos 0 }

abbrev pub figures_or_none : Option StatusLine → StatusFigures
figures_or_none None = no_figures
figures_or_none (Some s) = figures_of s

-- the status line of a story of version 3; other stories have none, and neither has one whose status line can't be read
abbrev pub HasStatus : MemoryMap → Option StatusLine → Type 0
HasStatus m None = (m.version ≢ 3) ⊎ ((e : Fault) × (status_units m ≡ Err e))
HasStatus m (Some s) = (m.version ≡ 3) × IsLineOf m s

-- ---- a line that is asked for

-- so many letters there is room for in a text buffer (section 15, `sread` and `aread`)
abbrev pub room_early : ℕ → ℕ
room_early size = size - 1

abbrev pub room_later : ℕ → ℕ → ℕ
room_later size count = if is_filled size count then 0 else size - count

abbrev pub line_room_early : MemoryMap → ℕ → Result ℕ Fault
line_room_early m text = byte_at m text >>= λ size. Ok (room_early size)

abbrev pub line_room_later : MemoryMap → ℕ → Result ℕ Fault
line_room_later m text = do
  size ← byte_at m text
  count ← byte_at m (text + 1)
  Ok (room_later size count)

abbrev pub line_room : MemoryMap → ℕ → Result ℕ Fault
line_room m text = if nat_lt m.version 5 then line_room_early m text else line_room_later m text

abbrev pub room_or_none : Result ℕ Fault → ℕ
room_or_none (Ok n) = n
room_or_none (Err f) = 0

-- the most letters of the line that is waited for
abbrev pub longest_line : MemoryMap → Option Event → ℕ
longest_line m (Some (Line text parse)) = room_or_none (line_room m text)
longest_line m (Some Char) = 0
longest_line m (Some Save) = 0
longest_line m (Some Restore) = 0
longest_line m None = 0
