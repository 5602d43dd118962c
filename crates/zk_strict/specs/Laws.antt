-- What is told in a run is by the values that its step takes, and so is what is told without one.
use Rattle.std.specs.Prelude.{◌≡◌, ℕ, List, Some, Ok, slice_get}
use Rattle.zk_code.specs.declared.operands.Operand.{Operand}
use Rattle.zk_step.specs.declared.state.game_state.GameState.{GameState}
use Rattle.zk_step.specs.Variables.{operands_read}
use Rattle.zk_strict.specs.declared.misuse.Extent.{Extent}
use Rattle.zk_strict.specs.declared.misuse.Misuse.{Misuse}
use Rattle.zk_strict.specs.Misuses.{misuse_at, misuse_next}
use Rattle.zk_strict.specs.Values.{first_taken, second_taken}

-- where a step takes values for all of its operands, the first two are those by which a misuse is told in a run
abbrev pub ValuesAreTaken : Type 0
ValuesAreTaken =
    (w t : GameState) (os : List Operand) (vs : List ℕ) → operands_read w os ≡ Ok (t, vs)
    → (first_taken w os ≡ slice_get vs 0) × (second_taken w os ≡ slice_get vs 1)

-- what is told without a run is told in each run that comes there with the same memory
abbrev pub ConstantsAreToldInRuns : Type 0
ConstantsAreToldInRuns =
    (arrays : List Extent) (w : GameState) (a : ℕ) (m : Misuse) → misuse_at w.memory arrays a ≡ Some m
    → misuse_next w arrays a ≡ Some m
