use Rattle.std.proofs.Common.{◌∙◌, ap}
use Rattle.zk_inspect.specs.Facts.{collected_then}
use Rattle.zk_notes.specs.Marks.{marked_facts}
use Rattle.zk_notes.proofs.Collecting.{collected_all, if_ok}
use Rattle.zk_notes.proofs.cover.marked.Goals as goal

pub returns : goal.returns
unfolding marked_facts
returns c =
    let i = c.as_slice.ensures.value ∙ c.in_ok-instructions.ensures in
    let r = c.as_slice-2.ensures.value ∙ c.in_ok-routines.ensures in
    if_ok c.finish.result
    (λ v h up. ap (λ x. x.items) h.1 ∙ collected_all _ _ _ _ _ c.new-out.ensures.short c.new-out.ensures.bytes
    (collected_then _ _ _ _ _ _ _ _ (rw (i, r) at (c.write_all.ensures up))
    (rw (i, r) at (c.write_summary.ensures up))) h.0)
    c.finish.ensures
