use Rattle.zk_coverage.proofs.Marks.{tallies_are}
use Rattle.zk_coverage.proofs.tally.Report.file_tally.Goals as goal

pub returns : goal.returns
returns c = λ up. tallies_are _ _ _ _ _ _ (rw c.as_slice-points.ensures.value at (c.in_ok-lines.ensures up))
    (c.routines_of.ensures up) (c.texts_of.ensures up)
