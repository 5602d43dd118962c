use Rattle.zk_inspect.specs.Beside.{IsNextRoutine}
use Rattle.zk_inspect.proofs.Besides.{IsClosing}
use Rattle.zk_inspect.proofs.whole.mark_all_next.Given as goal

abbrev pub invariant-loop-address : goal.invariant-loop-address
invariant-loop-address l = IsClosing (IsNextRoutine l.memory) l.fn.marks l.address l.marks
