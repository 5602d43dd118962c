use Rattle.zk_inspect.specs.TextTests.{IsTableMarks}
use Rattle.zk_inspect.proofs.check.texts.mark_table.Given as goal

abbrev pub invariant-loop-number : goal.invariant-loop-number
invariant-loop-number l = IsTableMarks l.memory l.number l.texts l.unread
