use Rattle.zk_inspect.specs.TextTests.{IsTextMarks, NamesMarked}
use Rattle.zk_inspect.proofs.check.texts.mark_names.Given as goal

abbrev pub invariant-loop-before : goal.invariant-loop-before
invariant-loop-before l = record {
  marks : IsTextMarks l.memory l.marks;
  names : NamesMarked l.memory l.before l.marks;
}
