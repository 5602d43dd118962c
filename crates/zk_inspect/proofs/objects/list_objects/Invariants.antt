use Rattle.zk_inspect.specs.Lists.{IsListOf}
use Rattle.zk_inspect.specs.ObjectTests.{IsAnswered}
use Rattle.zk_inspect.proofs.objects.list_objects.Given as goal

abbrev pub invariant-loop-before : goal.invariant-loop-before
invariant-loop-before l = IsListOf (IsAnswered l.memory l.objects.count l.question l.before) l.list
