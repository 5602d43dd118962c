use Rattle.std.proofs.Common.{◌≡◌, ◌≤◌, ◌^◌, length, drop}
use Rattle.zk_code.specs.Reading.{after, operands_at}
use Rattle.zk_code.proofs.decode.read_operands.Given as goal

abbrev pub invariant-loop-operand_type : goal.invariant-loop-operand_type
invariant-loop-operand_type l = record {
  so_far : after l.operands (operands_at l.memory (drop l.operand_type-index l.types) l.at) ≡ operands_at l.memory
      l.types l.fn.address;
  many : length l.operands ≡ l.operand_type-index;
  near : l.at ≤ 2 ^ 20;
}
