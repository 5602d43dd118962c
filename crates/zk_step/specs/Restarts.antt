-- A story begins again (Standard, section 6.1.3, and section 15, `restart`).
use Rattle.std.specs.Prelude.{[], false}
use Rattle.zk_mem.specs.Again.{restarted}
use Rattle.zk_state.specs.Frames.{first_frames}
use Rattle.zk_term.specs.Styles.{roman}
use Rattle.zk_term.specs.Windows.{unsplit}
use Rattle.zk_step.specs.declared.state.game_state.GameState.{GameState}

-- the upper window is gone, as `erase_window` -1 leaves it, and the open tables of stream 3 are forgotten (a choice of
-- zkit)
unfoldable pub windows_closed : GameState → GameState
windows_closed w = record w { windows = unsplit w.windows; streams = record w.streams { tables = [] } }

-- text is roman
unfoldable pub made_roman : GameState → GameState
made_roman w = record w { windows = record w.windows { style = roman; fixed_font = false } }

-- memory is put back, the first frame stands alone, and text is roman, in the normal font; random numbers and what else
-- the game state has go on
unfoldable pub begun_again : GameState → GameState
begun_again w =
    made_roman (windows_closed (record w {
      memory = restarted w.memory;
      frames = first_frames w.frames.most_frames
          w.frames.most_words;
    }))
