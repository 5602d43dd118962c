use Rattle.std.proofs.Common.{ℕ, ◌<◌, get_or}
use Rattle.zk_inspect.specs.TextTests.{IsTextMarks, Keeps, TextsMarked}
use Rattle.zk_inspect.proofs.check.texts.mark_code.Given as goal

abbrev pub invariant-loop-address : goal.invariant-loop-address
invariant-loop-address l = record {
  marks : IsTextMarks l.memory l.marks;
  keeps : Keeps l.initial.marks l.marks;
  texts : (k : ℕ) → k < l.address-index → TextsMarked l.memory (get_or l.addresses k 0) l.marks;
}
