use Rattle.zk_inspect.specs.ListMarks.{HasList}
use Rattle.zk_inspect.specs.Lists.{AreLastMarks}
use Rattle.zk_inspect.proofs.check.property_lists.mark_lists.Given as goal

abbrev pub invariant-loop-behind : goal.invariant-loop-behind
invariant-loop-behind l = AreLastMarks (HasList l.memory) 66100 l.end l.behind l.marks
