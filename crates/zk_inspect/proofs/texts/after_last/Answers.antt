use Rattle.std.proofs.Common.{◌∙◌, ap, refl, sym, Some}
use Rattle.zk_inspect.proofs.Lying.{one_after_last, no_extent_last}
use Rattle.zk_inspect.proofs.texts.after_last.Goals as goal

pub returns-in-Some-extent-clause-only : goal.returns-in-Some-extent-clause-only
returns-in-Some-extent-clause-only c = λ t h. ap Some c.next_packed.ensures
    ∙ one_after_last c.args.memory.now c.args.routines.now c.in-Some.start c.in-Some-extent.end
    (sym c.in-Some.ensures.value) c.in-Some-extent.ensures.found t h

pub returns-in-None-clause-only : goal.returns-in-None-clause-only
returns-in-None-clause-only c =
    λ t h. absurd (no_extent_last c.args.memory.now c.args.routines.now c.in-Some.start
    (sym c.in-Some.ensures.value) (c.in-None.ensures.none refl) t h)
