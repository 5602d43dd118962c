use Rattle.std.proofs.Common.{sym, subst}
use Rattle.zk_inspect.specs.Lists.{IsListOf}
use Rattle.zk_inspect.specs.ObjectTests.{IsAnswered}
use Rattle.zk_inspect.proofs.Answered.{answered_more, answered_still, answered_gone}
use Rattle.zk_inspect.proofs.objects.add_object.Goals as goal

pub returns-then-answer : goal.returns-then-answer
returns-then-answer c = subst (IsListOf (IsAnswered c.args.memory.now c.args.objects.now.count c.args.question _))
    (sym c.in_ok-push-in-Ok.ensures) (answered_more c.args.memory.now c.args.objects.now.count c.args.question
    c.args.before _ _ c.requires.before (sym c.in-Ok.ensures.value) (sym c.if-answer.ensures))

pub returns-else-answer : goal.returns-else-answer
returns-else-answer c = answered_still c.args.memory.now c.args.objects.now.count c.args.question c.args.before _
    c.requires.before (sym c.if-answer.ensures)

pub returns-in-Err : goal.returns-in-Err
returns-in-Err c = answered_gone c.args.memory.now c.args.objects.now.count c.args.question c.args.before _ _
    c.requires.before (sym c.in-Err.ensures.value)
