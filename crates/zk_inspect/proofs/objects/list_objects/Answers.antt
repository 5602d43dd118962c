use Rattle.std.proofs.Common.{sym, subst}
use Rattle.zk_inspect.specs.Lists.{IsListOf}
use Rattle.zk_inspect.specs.ObjectTests.{IsAnswered}
use Rattle.zk_inspect.proofs.Answered.{answered_none}
use Rattle.zk_inspect.proofs.objects.list_objects.Goals as goal

pub loop-before-init : goal.loop-before-init
loop-before-init c = subst (IsListOf (IsAnswered c.args.memory.now c.args.objects.now.count c.args.question 0))
    (sym c.new-list.ensures) (answered_none c.args.memory.now c.args.objects.now.count c.args.question)
