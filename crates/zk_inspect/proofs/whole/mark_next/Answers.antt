use Rattle.std.proofs.Common.{sym}
use Rattle.zk_inspect.proofs.Besides.{next_marked}
use Rattle.zk_inspect.proofs.whole.mark_next.Goals as goal

pub returns-in-Some-clause-exact : goal.returns-in-Some-clause-exact
returns-in-Some-clause-exact c = next_marked c.args.memory.now c.args.routine c.in-Some.start c.args.marks.now _
    (sym c.in-Some.ensures.value) c.mark_neighbour.ensures.exact
