use Rattle.std.proofs.Common.{◌∙◌, ◌+◌, arith, sym, subst}
use Rattle.zk_inspect.specs.LyingTexts.{IsNextText}
use Rattle.zk_inspect.proofs.Besides.{IsClosing, closing_begins, closing_marked, closing_on, closing_ends}
use Rattle.zk_inspect.proofs.Lying.{text_later}
use Rattle.zk_inspect.proofs.texts.mark_all_next_texts.Goals as goal
use Rattle.zk_inspect.proofs.texts.mark_all_next_texts.Goals.{then-has, else-has}

pub loop-address-init : goal.loop-address-init
loop-address-init c = closing_begins (IsNextText c.args.memory.now) c.args.marks.now

pub loop-address-preserved : goal.loop-address-preserved
loop-address-preserved c = elim c.if-has.branch [
  | then-has w ↦ subst (IsClosing (IsNextText c.args.memory.now) c.args.marks.now (c.loop-address.address + 1))
      (sym w.marks-is)
      (closing_marked (IsNextText c.args.memory.now) c.args.marks.now c.loop-address.marks
      w.mark_next_text.new.marks c.loop-address.address (text_later c.args.memory.now)
      c.loop-address.invariant (sym c.has.ensures ∙ w.if-has.true) w.mark_next_text.ensures.size
      w.mark_next_text.ensures.exact)
  | else-has w ↦ subst (IsClosing (IsNextText c.args.memory.now) c.args.marks.now (c.loop-address.address + 1))
      (sym w.marks-is)
      (closing_on (IsNextText c.args.memory.now) c.args.marks.now c.loop-address.marks c.loop-address.address
      c.loop-address.invariant (sym c.has.ensures ∙ w.if-has.false))
]

pub returns-clause-exact : goal.returns-clause-exact
returns-clause-exact c =
    let s = c.loop-address.invariant.size in
    let e = c.requires.size in
    let t = c.loop-address-test.false in
    let l = c.len-address-end.ensures.value in
    closing_ends (IsNextText c.args.memory.now) c.args.marks.now c.loop-address.marks c.loop-address.address
    c.loop-address.invariant (omega arith)
