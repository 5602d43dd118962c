-- The values that a step takes for the first two operands of an instruction (Standard, section 4.2).
use Rattle.std.specs.Prelude.{ℕ, ◌==◌, Bool, false, List, [], ◌∷◌, Option, Some, None, Result, Ok, Err}
use Rattle.zk_mem.specs.declared.fault.Fault.{Fault}
use Rattle.zk_mem.specs.Results.{◌>>=◌}
use Rattle.zk_code.specs.declared.operands.Operand.{Operand}
use Rattle.zk_code.specs.declared.operands.Operand.TheVariants.{Variable}
use Rattle.zk_step.specs.declared.state.game_state.GameState.{GameState}
use Rattle.zk_step.specs.Variables.{operand_read}

-- the value that was read, if one was
abbrev pub value_of : Result (GameState × ℕ) Fault → Option ℕ
value_of (Ok r) = Some r.1
value_of (Err f) = None

-- the value of the first of some operands; variable 0 pulls the newest word of the evaluation stack (section 6.3)
abbrev pub first_taken : GameState → List Operand → Option ℕ
first_taken w [] = None
first_taken w (o ∷ os) = value_of (operand_read w o)

-- the value of the second of two operands, once the first was read: variable 0 pulls what the first has left
unfoldable pub taken_after : GameState → Operand → Operand → Option ℕ
taken_after w o p = value_of (operand_read w o >>= λ r. operand_read r.0 p)

-- the value of the second of some operands
abbrev pub second_taken : GameState → List Operand → Option ℕ
second_taken w [] = None
second_taken w (o ∷ []) = None
second_taken w (o ∷ p ∷ os) = taken_after w o p

-- an operand pulls a word of the evaluation stack
abbrev pub pulls : Operand → Bool
pulls (Variable v) = v == 0
pulls _ = false
