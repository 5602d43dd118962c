use Rattle.zk_inspect.specs.Siblings.{HasSiblings}
use Rattle.zk_inspect.proofs.check.siblings.list_siblings.Given as goal

abbrev pub invariant-loop-before : goal.invariant-loop-before
invariant-loop-before l = HasSiblings l.memory l.before l.list.items
