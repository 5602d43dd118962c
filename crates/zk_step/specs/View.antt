-- What is shown of the status line and the upper window before a read, on a screen of plain lines (Standard, section
-- 8).
use Rattle.std.specs.Prelude.{true, ℕ, zero, suc, ◌+◌, List, [], ◌∷◌, ◌++◌, Result, Ok, ◌==◌, if◌then◌else◌}
use Rattle.zk_mem.specs.declared.fault.Fault.{Fault}
use Rattle.zk_mem.specs.Map.{MemoryMap}
use Rattle.zk_mem.specs.Results.{◌>>=◌}
use Rattle.zk_text.specs.Extra.{own_characters}
use Rattle.zk_text.specs.Shown.{shown_all}
use Rattle.zk_term.specs.Windows.{Windows, row_text}
use Rattle.zk_step.specs.declared.state.game_state.View.{View}
use Rattle.zk_step.specs.declared.state.game_state.View.TheVariants.{Plain, Upper}
use Rattle.zk_step.specs.declared.state.game_state.GameState.{GameState}
use Rattle.zk_step.specs.Routing.{Signals, no_signals, on_screen, fresh_line, with_line_start}
use Rattle.zk_step.specs.Status.{status_units}

-- so many rows of the upper window, from a row on, each on a line after a bar and a space
unfoldable pub rows_shown : Windows → ℕ → ℕ → List ℕ
rows_shown w row zero = []
rows_shown w row (suc n) = (124 ∷ 32 ∷ row_text w row ++ 10 ∷ []) ++ rows_shown w (row + 1) n

-- the line of the status, which version 3 has alone
abbrev pub status_text : MemoryMap → Result (List ℕ) Fault
status_text m =
    if m.version == 3 then (status_units m >>= λ units. Ok (shown_all (own_characters m) units ++ 10 ∷ [])) else Ok []

-- lines on the screen, where there are some, after a new line unless the last character was one
unfoldable pub lines_shown : GameState → List ℕ → GameState × Signals
lines_shown w [] = (w, no_signals)
lines_shown w (c ∷ cs) = (with_line_start true w, on_screen (fresh_line w.at_line_start ++ c ∷ cs))

-- the status line and the rows of the upper window, by the view
abbrev pub viewed_by : View → GameState → Result (GameState × Signals) Fault
viewed_by Plain w = Ok (w, no_signals)
viewed_by Upper w =
    status_text w.memory >>= λ status. Ok (lines_shown w (status ++ rows_shown w.windows 1 w.windows.height))

unfoldable pub viewed : GameState → Result (GameState × Signals) Fault
viewed w = viewed_by w.view w
