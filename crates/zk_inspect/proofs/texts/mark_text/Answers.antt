use Rattle.std.proofs.Common.{arith, sym}
use Rattle.zk_inspect.proofs.Lying.{text_inside, text_marked}
use Rattle.zk_inspect.proofs.texts.mark_text.Goals as goal

pub mark-requires : goal.mark-requires
mark-requires c =
    let lt = text_inside c.args.memory.now c.args.address _ (sym c.in-Some.ensures.value) in
    omega (arith, c.requires.size)

pub returns-in-Some-clause-exact : goal.returns-in-Some-clause-exact
returns-in-Some-clause-exact c = text_marked c.args.memory.now c.args.address _ c.args.marks.now _
    (sym c.in-Some.ensures.value) c.requires.size c.mark.ensures
