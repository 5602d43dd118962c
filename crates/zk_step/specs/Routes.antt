-- What is printed has found its way.
use Rattle.std.specs.Prelude.{◌≡◌, ◌⊎◌, ℕ, List, Result, Ok, IsOk}
use Rattle.zk_mem.specs.declared.fault.Fault.{Fault}
use Rattle.zk_mem.specs.Results.{◌>>=◌}
use Rattle.zk_code.specs.declared.instr.Instr.{Instr}
use Rattle.zk_step.specs.declared.state.ending.Effect.{Effect}
use Rattle.zk_step.specs.declared.state.ending.Ending.{Ending}
use Rattle.zk_step.specs.declared.state.ending.Next.{Next}
use Rattle.zk_step.specs.declared.state.game_state.GameState.{GameState}
use Rattle.zk_step.specs.Finish.{finished}
use Rattle.zk_step.specs.Limited.{limited_next}
use Rattle.zk_step.specs.Routing.{Signals, no_signals, routed, text_routed}

-- an instruction is finished after its route
abbrev pub finished_after : Result (GameState × Signals) Fault → Instr → List ℕ → Ending
    → Result (GameState × Next) Fault
finished_after r i vs ending = r >>= λ x. finished x.0 i vs ending

-- a route has led to a game state, and where it shows something, nothing can refuse the instruction any more
abbrev pub IsRoutedBy : Result (GameState × Signals) Fault → GameState → Instr → List ℕ → Ending → Type 0
IsRoutedBy r new i vs ending =
    (r ≡ Ok (new, text_routed r)) × ((text_routed r ≡ no_signals) ⊎ IsOk (limited_next (finished new i vs ending)))

abbrev pub IsRouted : GameState → GameState → Instr → List ℕ → Effect → Type 0
IsRouted old new i vs effect = IsRoutedBy (routed old.memory old effect.output) new i vs effect.ending
