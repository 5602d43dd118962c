use Rattle.std.proofs.Common.{List, ℕ, sym, subst, refl}
use Rattle.std.proofs.lemmas.List.Elements.{Contains-get_or}
use Rattle.zk_code.specs.Reach.{IsReached}
use Rattle.zk_inspect.specs.Lists.{IsListOf}
use Rattle.zk_inspect.proofs.TextMarks.{code_end, code_more}
use Rattle.zk_inspect.proofs.check.texts.mark_code.Goals as goal

pub mark_texts-requires-clause-reached : goal.mark_texts-requires-clause-reached
mark_texts-requires-clause-reached c =
    let list = subst (λ (xs : List ℕ). IsListOf (IsReached c.args.memory.now) xs)
    (sym c.as_slice-addresses.ensures) c.requires.code.addresses in
    list.listed _ (Contains-get_or c.as_slice-addresses.result.now c.loop-address.address-index 0
    c.loop-address-test.true)

pub loop-address-preserved : goal.loop-address-preserved
loop-address-preserved c = record {
  marks = c.mark_texts.ensures.marks;
  keeps = λ a h. c.mark_texts.ensures.keeps a (c.loop-address.invariant.keeps a h);
  texts = code_more c.args.memory.now _ c.loop-address.address-index _ c.loop-address.marks c.mark_texts.new.marks
      c.loop-address.invariant.texts c.mark_texts.ensures.keeps refl c.mark_texts.ensures.texts;
}

pub returns-clause-texts : goal.returns-clause-texts
returns-clause-texts c =
    let list = subst (λ (xs : List ℕ). IsListOf (IsReached c.args.memory.now) xs)
    (sym c.as_slice-addresses.ensures) c.requires.code.addresses in
    code_end c.args.memory.now _ c.loop-address.address-index c.loop-address.marks list c.loop-address-test.false
    c.loop-address.invariant.texts
