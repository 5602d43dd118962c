use Rattle.std.proofs.Common.{◌<◌, ◌+◌, ◌∙◌, sym, subst}
use Rattle.zk_inspect.specs.Lists.{IsListOf, IsMarked}
use Rattle.zk_inspect.proofs.Marking.{listed_more, listed_still}
use Rattle.zk_inspect.proofs.reach.address_set.list_marked.Goals as goal
use Rattle.zk_inspect.proofs.reach.address_set.list_marked.Goals.{then-bits-i+in_ok-push, else-bits-i}

pub loop-i-preserved : goal.loop-i-preserved
loop-i-preserved c =
    let more = listed_more c.args.bits.now c.loop-i.list c.loop-i.i c.loop-i.invariant in
    elim c.if-bits-i.branch [
      | then-bits-i+in_ok-push w ↦ subst (IsListOf (λ a. (a < c.loop-i.i + 1) × IsMarked c.args.bits.now a))
          (sym (w.list-is ∙ w.in_ok-push.ensures)) (more w.if-bits-i.true)
      | else-bits-i w ↦ subst (IsListOf (λ a. (a < c.loop-i.i + 1) × IsMarked c.args.bits.now a)) (sym w.list-is)
          (listed_still c.args.bits.now c.loop-i.list c.loop-i.i c.loop-i.invariant w.if-bits-i.false)
    ]
