use Rattle.std.proofs.Common.{◌∙◌, ◌≡◌, sym, subst, take, List, ℕ}
use Rattle.std.proofs.lemmas.List.{take_all, take_more}
use Rattle.zk_inspect.proofs.Lying.{AlsoPrinted, printed_more}
use Rattle.zk_inspect.proofs.texts.mark_all_printed.Goals as goal

pub loop-address-preserved : goal.loop-address-preserved
loop-address-preserved c = record {
  size = c.mark_printed.ensures.size ∙ c.loop-address.invariant.size;
  exact = subst (λ (xs : List ℕ). AlsoPrinted c.args.memory.now xs c.args.marks.now c.mark_printed.new.marks)
      (sym (take_more c.args.code.now c.loop-address.address-index 0 c.loop-address-test.true))
      (printed_more c.args.memory.now _ _ c.args.marks.now c.loop-address.marks c.mark_printed.new.marks
      c.loop-address.invariant.exact c.mark_printed.ensures.exact);
}

pub returns-clause-exact : goal.returns-clause-exact
returns-clause-exact c =
    let whole : take c.loop-address.address-index c.args.code.now ≡ c.args.code.now = take_all
    c.loop-address.address-index c.args.code.now c.loop-address-test.false in
    subst (λ (xs : List ℕ). AlsoPrinted c.args.memory.now xs c.args.marks.now c.loop-address.marks) whole
    c.loop-address.invariant.exact
