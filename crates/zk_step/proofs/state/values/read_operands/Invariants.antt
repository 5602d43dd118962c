use Rattle.std.proofs.Common.{◌≡◌, length, drop}
use Rattle.zk_state.specs.Frames.{bounds_of}
use Rattle.zk_step.specs.Variables.{operands_read, values_before}
use Rattle.zk_step.proofs.state.values.read_operands.Given as goal

abbrev pub invariant-loop-operand : goal.invariant-loop-operand
invariant-loop-operand l = record {
  so_far : values_before l.values (operands_read l.game (drop l.operand-index l.operands)) ≡ operands_read
      l.fn.game l.operands;
  many : length l.values ≡ l.operand-index;
  bounds : bounds_of l.game.frames ≡ bounds_of l.fn.game.frames;
}
