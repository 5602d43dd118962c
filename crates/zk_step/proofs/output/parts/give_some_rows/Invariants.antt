use Rattle.std.proofs.Common.{◌≤◌}
use Rattle.zk_step.specs.Halves.{GivesSome, rest_rows, row_rest}
use Rattle.zk_step.proofs.output.parts.give_some_rows.Given as goal

abbrev pub invariant-loop-i : goal.invariant-loop-i
invariant-loop-i g l = record {
  gives : GivesSome g.K.Sink.gave l.fn.sink l.sink (row_rest l.fn.row (rest_rows l.memory l.rectangle l.fn.row))
      (row_rest l.row (rest_rows l.memory l.rectangle l.row));
  within : l.row ≤ l.rectangle.height;
  passed : l._i ≤ l.row;
}
