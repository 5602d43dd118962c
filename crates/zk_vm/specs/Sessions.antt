-- A machine, as contracts see it: at a story's start, with a stop, and after an answer.
use Rattle.std.specs.Prelude.{true, ℕ, List, [], Option, Some, None, is_none, if◌then◌else◌}
use Rattle.zk_mem.specs.Header.{header_of}
use Rattle.zk_mem.specs.Fresh.{fresh}
use Rattle.zk_state.specs.Frames.{first_frames}
use Rattle.zk_term.specs.Windows.{Windows, first_windows, forgotten, split}
use Rattle.zk_step.specs.declared.state.game_state.View.{View}
use Rattle.zk_step.specs.declared.state.game_state.GameState.{GameState}
use Rattle.zk_step.specs.Routing.{Signals}
use Rattle.zk_step.specs.Streams.{first_streams}
use Rattle.zk_vm.specs.declared.limits.Limits.{Limits}
use Rattle.zk_vm.specs.Bounds.{setup_of}
use Rattle.zk_vm.specs.declared.stop.Stop.{Stop}
use Rattle.zk_vm.specs.declared.waiting.Waiting.{Waiting}
use Rattle.zk_vm.specs.Step.{State, Verdict, verdict_of, state_after}
use Rattle.zk_vm.specs.Step.Verdict.{GoesOn, WaitsFor, StopsBy}
use Rattle.zk_vm.specs.Answers.{Answer, answered}

-- a machine: the state of play, its limits, what it waits for, if it does, why it has stopped, if it has, and what is
-- still to come of the text of the instruction at its program counter, where a part of it was shown
pub record Session : Type 0 where
  pub state : State
  pub limits : Limits
  pub waiting : Option Waiting
  pub stopped : Option Stop
  pub left : Option Signals

-- the game state that a story begins with, with a seed of its random numbers
abbrev pub first_game : List ℕ → ℕ → Limits → View → GameState
first_game story seed limits view = record {
  memory = fresh story (setup_of limits);
  frames = first_frames limits.frames limits.words;
  streams = first_streams;
  windows = first_windows limits.screen.columns;
  generators = record { free = seed; predictable = None };
  at_line_start = true;
  view = view;
}

-- a story begins at its first instruction (Standard, section 5.5)
unfoldable pub begun : List ℕ → ℕ → Limits → View → Session
begun story seed limits view = record {
  state = record {
    game = first_game story seed limits view;
    pc = (header_of story).first_instruction;
    steps = 0;
    reads = 0;
    due = [];
    undo = [];
  };
  limits = limits;
  waiting = None;
  stopped = None;
  left = None;
}

-- a machine with a stop waits for nothing, and has no text to show
abbrev pub with_stop : Session → Stop → Session
with_stop s stop = record s { waiting = None; stopped = Some stop; left = None }

-- a machine with other windows
abbrev pub with_windows : Session → Windows → Session
with_windows s windows = record s { state = record s.state { game = record s.state.game { windows = windows } } }

-- a machine whose screen has forgotten the grid that is gone
abbrev pub with_grid_forgotten : Session → Session
with_grid_forgotten s = with_windows s (forgotten s.state.game.windows)

-- a machine whose upper window its host has given a height, as `split_window` would (section 15), unless it is in the
-- middle of an instruction's text
abbrev pub with_height : Session → ℕ → Session
with_height s lines =
    if is_none s.left
    then with_windows s (split s.state.game.memory.version lines s.state.game.windows)
    else s

-- a machine whose random numbers begin anew with a seed; those that the story itself has made predictable stay so
-- (section 15, `random`)
abbrev pub with_seed : Session → ℕ → Session
with_seed s seed =
    record s {
      state = record s.state {
        game = record s.state.game {
          generators = record s.state.game.generators { free = seed };
        };
      };
    }

-- a machine that was answered
abbrev pub resumed : Session → Verdict → State → Session
resumed s GoesOn next = record s { state = next; waiting = None }
resumed s (WaitsFor waiting) next = s
resumed s (StopsBy stop) next = with_stop s stop

abbrev pub given_to : Option Waiting → Session → Answer → Session
given_to None s a = s
given_to (Some waiting) s a =
    resumed s (verdict_of s.state (answered s.state waiting a)) (state_after s.state (answered s.state waiting a))

-- a machine that waits is given an answer
unfoldable pub given : Session → Answer → Session
given s a = given_to s.waiting s a
