use Rattle.std.proofs.Common.{◌≡◌, take, false}
use Rattle.std.specs.List.{list_any}
use Rattle.zk_inspect.specs.Notes.{is_variable}
use Rattle.zk_inspect.proofs.reach.notes.have_variable.Given as goal

abbrev pub invariant-loop-operand : goal.invariant-loop-operand
invariant-loop-operand l = list_any (is_variable l.number) (take l.operand-index l.operands) ≡ false
