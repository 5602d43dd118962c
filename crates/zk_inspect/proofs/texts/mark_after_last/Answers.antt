use Rattle.zk_inspect.specs.LyingTexts.{IsAfterLast}
use Rattle.std.proofs.Common.{sym}
use Rattle.zk_inspect.proofs.Marking.{some_same}
use Rattle.zk_inspect.proofs.Lying.{marked_by, none_marked_by}
use Rattle.zk_inspect.proofs.texts.mark_after_last.Goals as goal

pub returns-in-Some-clause-exact : goal.returns-in-Some-clause-exact
returns-in-Some-clause-exact c = marked_by c.args.memory.now (IsAfterLast c.args.memory.now c.args.routines.now)
    c.in-Some.address c.args.marks.now _ c.in-Some.ensures.found
    (λ t h. sym (some_same _ _ (c.in-Some.ensures.only t h))) c.mark_text.ensures.exact

pub returns-in_default-clause-exact : goal.returns-in_default-clause-exact
returns-in_default-clause-exact c =
    none_marked_by c.args.memory.now (IsAfterLast c.args.memory.now c.args.routines.now) c.args.marks.now
    (λ t h. absurd (let e = c.in_default.ensures.only t h in cc))
