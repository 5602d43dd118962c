use Rattle.std.proofs.Common.{◌≡◌, ◌-◌, Ok}
use Rattle.zk_state.specs.Frames.{IsBounded, bounds_of}
use Rattle.zk_step.specs.declared.state.game_state.GameState.{GameState}
use Rattle.zk_step.specs.Variables.{operands_read}
use Rattle.zk_step.proofs.GivingBack.{after_operands}
use Rattle.zk_step.proofs.state.values.give_back.Given as goal

abbrev pub invariant-loop-k : goal.invariant-loop-k
invariant-loop-k l = record {
  value : (found : GameState) → IsBounded found.frames → operands_read found l.operands ≡ Ok (l.fn.game, l.values)
      → l.game ≡ after_operands (l.count - l.k) found l.operands;
  bounds : bounds_of l.game.frames ≡ bounds_of l.fn.game.frames;
}
