-- Laws of snapshots.
use Rattle.std.specs.Prelude.{◌≡◌, ◌≤◌, ℕ, List, [], None, Ok, All, length, take, IfSome}
use Rattle.std.specs.List.{flat_map}
use Rattle.zk_mem.specs.Map.{IsOfFile}
use Rattle.zk_code.specs.Reading.{instr_at}
use Rattle.zk_save.specs.States.{WholeState}
use Rattle.zk_state.specs.Frames.{bounds_of}
use Rattle.zk_term.specs.Windows.{forgotten}
use Rattle.zk_step.specs.declared.state.game_state.GameState.{GameState}
use Rattle.zk_vm.specs.Bounds.{setup_of}
use Rattle.zk_vm.specs.Sessions.{Session}
use Rattle.zk_snapshot.specs.Opening.{IsOpened}
use Rattle.zk_snapshot.specs.Snapshots.{HasSnapshot, fitting, kept_bytes, snapshot_of, snapshot_with}

-- a game state whose screen has forgotten the grid that is gone
abbrev pub without_gone : GameState → GameState
without_gone g = record g { windows = forgotten g.windows }

-- what a snapshot keeps of a machine: these states to go back to, and not the grid that is gone
abbrev pub with_kept : List WholeState → Session → Session
with_kept states s = record s { state = record s.state { game = without_gone s.state.game; undo = states } }

-- the newest states, so many of them
abbrev pub newest : ℕ → Session → List WholeState
newest n s = take n s.state.undo

-- what is known of a machine that has a snapshot
pub record IsKept (s : Session) : Type 0 where
  pub has : HasSnapshot s
  pub bounds : bounds_of s.state.game.frames ≡ (s.limits.frames, s.limits.words)
  pub setup : s.state.game.memory.setup ≡ setup_of s.limits
  pub of_file : IsOfFile s.state.game.memory
  pub within : s.state.game.memory.static_base ≤ length s.state.game.memory.file
  pub sized : All (λ (w : WholeState). length w.dynamic ≡ s.state.game.memory.static_base) s.state.undo
  pub due : s.state.due ≡ []
  pub stopped : s.stopped ≡ None
  pub left : s.left ≡ None
  pub fetched : IfSome s.waiting (λ w. instr_at s.state.game.memory s.state.pc ≡ Ok w.instruction)

-- two machines that have the same snapshot, each with some of its newest states, are the same, but for what it does not
-- keep
abbrev pub IsOfOnePlay : Session → Session → Type 0
IsOfOnePlay a b = (m n : ℕ) → snapshot_with (newest m a) a ≡ snapshot_with (newest n b) b
    → with_kept (newest m a) a ≡ with_kept (newest n b) b

-- what fits in so many bytes are the newest states, and no more bytes
abbrev pub FitsNewest : List ℕ → List WholeState → Type 0
FitsNewest file ws = (most : ℕ) → ((n : ℕ) × (fitting file most ws ≡ take n ws))
    × (length (flat_map (kept_bytes file) (fitting file most ws)) ≤ most)

-- what is opened of a snapshot of a machine is that machine, with the states to go back to that the snapshot kept, and
-- no grid that is gone
abbrev pub OpensAgain : Session → Session → Type 0
OpensAgain s opened = (most : ℕ) → IsOpened s.state.game.memory.file (snapshot_of most s) opened
    → opened ≡ with_kept (fitting s.state.game.memory.file most s.state.undo) s
