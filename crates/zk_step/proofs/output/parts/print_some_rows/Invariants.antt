use Rattle.std.proofs.Common.{◌≡◌, ◌≤◌}
use Rattle.zk_text.specs.Extra.{own_characters}
use Rattle.zk_step.specs.Halves.{rest_rows, upper_rows}
use Rattle.zk_step.proofs.output.parts.print_some_rows.Given as goal

abbrev pub invariant-loop-i : goal.invariant-loop-i
invariant-loop-i l = record {
  value : upper_rows l.on (own_characters l.memory) l.column l.row (rest_rows l.memory l.rectangle l.row) l.windows
      ≡ upper_rows l.on (own_characters l.memory) l.column l.fn.row (rest_rows l.memory l.rectangle l.fn.row)
      l.fn.windows;
  within : l.row ≤ l.rectangle.height;
  passed : l._i ≤ l.row;
}
