use Rattle.zk_inspect.specs.LyingTexts.{IsNextText}
use Rattle.zk_inspect.proofs.Besides.{IsClosing}
use Rattle.zk_inspect.proofs.texts.mark_all_next_texts.Given as goal

abbrev pub invariant-loop-address : goal.invariant-loop-address
invariant-loop-address l = IsClosing (IsNextText l.memory) l.fn.marks l.address l.marks
