use Rattle.std.proofs.Common.{◌∙◌, ◌+◌, arith, sym, subst}
use Rattle.zk_inspect.specs.Beside.{IsNextRoutine}
use Rattle.zk_inspect.proofs.Besides.{IsClosing, closing_begins, closing_marked, closing_on, closing_ends, next_later}
use Rattle.zk_inspect.proofs.whole.mark_all_next.Goals as goal
use Rattle.zk_inspect.proofs.whole.mark_all_next.Goals.{then-has, else-has}

pub loop-address-init : goal.loop-address-init
loop-address-init c = closing_begins (IsNextRoutine c.args.memory.now) c.args.marks.now

pub loop-address-preserved : goal.loop-address-preserved
loop-address-preserved c = elim c.if-has.branch [
  | then-has w ↦ subst (IsClosing (IsNextRoutine c.args.memory.now) c.args.marks.now (c.loop-address.address + 1))
      (sym w.marks-is)
      (closing_marked (IsNextRoutine c.args.memory.now) c.args.marks.now c.loop-address.marks
      w.mark_next.new.marks c.loop-address.address (next_later c.args.memory.now) c.loop-address.invariant
      (sym c.has.ensures ∙ w.if-has.true) w.mark_next.ensures.size w.mark_next.ensures.exact)
  | else-has w ↦ subst (IsClosing (IsNextRoutine c.args.memory.now) c.args.marks.now (c.loop-address.address + 1))
      (sym w.marks-is)
      (closing_on (IsNextRoutine c.args.memory.now) c.args.marks.now c.loop-address.marks c.loop-address.address
      c.loop-address.invariant (sym c.has.ensures ∙ w.if-has.false))
]

pub returns-clause-exact : goal.returns-clause-exact
returns-clause-exact c =
    let s = c.loop-address.invariant.size in
    let e = c.requires.size in
    let t = c.loop-address-test.false in
    let l = c.len-address-end.ensures.value in
    closing_ends (IsNextRoutine c.args.memory.now) c.args.marks.now c.loop-address.marks c.loop-address.address
    c.loop-address.invariant (omega arith)
