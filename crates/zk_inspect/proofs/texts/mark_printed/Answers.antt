use Rattle.std.proofs.Common.{sym}
use Rattle.zk_inspect.specs.LyingTexts.{PrintsText}
use Rattle.zk_inspect.proofs.Marking.{some_same}
use Rattle.zk_inspect.proofs.Lying.{marked_by, none_marked_by, one_printed}
use Rattle.zk_inspect.proofs.texts.mark_printed.Goals as goal

pub returns-in_default-clause-exact : goal.returns-in_default-clause-exact
returns-in_default-clause-exact c = none_marked_by c.args.memory.now (PrintsText c.args.memory.now c.args.address)
    c.args.marks.now (λ t h. absurd (let e = (c.in_default.ensures.only h.instr h.next h.stands).0 in cc))

pub returns-in-Some-clause-exact : goal.returns-in-Some-clause-exact
returns-in-Some-clause-exact c =
    marked_by c.args.memory.now (PrintsText c.args.memory.now c.args.address) c.in-Some.text c.args.marks.now _
    (record {
      next = c.in-Ok.instr.next;
      instr = c.in-Ok.instr;
      stands = c.in-Ok.ensures.found;
      prints = sym c.in-Some.ensures;
    })
    (λ t h. sym (some_same _ _ (one_printed c.args.memory.now c.args.address _ c.in-Ok.instr _
    c.in-Ok.ensures.found (sym c.in-Some.ensures) t h))) c.mark_text.ensures.exact

pub returns-in_default-packed_text-clause-exact : goal.returns-in_default-packed_text-clause-exact
returns-in_default-packed_text-clause-exact c =
    none_marked_by c.args.memory.now (PrintsText c.args.memory.now c.args.address) c.args.marks.now
    (λ t h. absurd (let e = one_printed c.args.memory.now c.args.address _ c.in-Ok.instr _ c.in-Ok.ensures.found
    (sym c.in_default-packed_text.ensures) t h in cc))
