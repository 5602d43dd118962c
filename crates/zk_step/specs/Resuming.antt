-- A state that is back goes on at the address where it was saved (Standard, section 15, `save` and `restore_undo`;
-- Quetzal
-- 1.4, section 5).
use Rattle.std.specs.Prelude.{ℕ, ◌+◌, true, Option, Some, None, Result, Ok, Err, nat_lt, if◌then◌else◌}
use Rattle.zk_mem.specs.declared.fault.Fault.{Fault}
use Rattle.zk_mem.specs.declared.fault.Fault.TheVariants.{BadTarget}
use Rattle.zk_mem.specs.Map.{cell_at}
use Rattle.zk_code.specs.declared.branch.Branch.{Branch}
use Rattle.zk_code.specs.Reading.{Read, branch_here}
use Rattle.zk_step.specs.declared.state.finish.Continuation.TheVariants.{To}
use Rattle.zk_step.specs.declared.state.game_state.GameState.{GameState}
use Rattle.zk_step.specs.Finish.{gone, led, continuation_after}

-- the branch of the `save` is taken as on success; one outside of the story is a bad target
abbrev pub branch_taken : GameState → Read Branch → Result (GameState × ℕ) Fault
branch_taken w (Ok b) = led w (continuation_after (Some b.0) b.1 (Some true))
branch_taken w (Err f) = Err BadTarget

-- 2 is stored where the `save` stores; a store byte outside of the story is a bad target
abbrev pub two_stored : GameState → ℕ → Option ℕ → Result (GameState × ℕ) Fault
two_stored w pc (Some v) = gone w (Some v) (Some 2) (To (pc + 1))
two_stored w pc None = Err BadTarget

-- the address is that of the branch in version 3, and of the store byte from version 4 on
unfoldable pub resumed : GameState → ℕ → Result (GameState × ℕ) Fault
resumed w pc = if nat_lt w.memory.version 4 then branch_taken w (branch_here w.memory pc) else two_stored w pc
    (cell_at w.memory pc)
