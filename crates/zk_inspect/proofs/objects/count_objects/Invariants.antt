use Rattle.zk_inspect.proofs.Entries.{Counting}
use Rattle.zk_inspect.proofs.objects.count_objects.Given as goal

abbrev pub invariant-loop-before : goal.invariant-loop-before
invariant-loop-before l = Counting l.memory l.before l.lowest
