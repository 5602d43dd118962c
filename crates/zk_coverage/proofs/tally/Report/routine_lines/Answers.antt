use Rattle.std.proofs.Common.{◌∙◌}
use Rattle.zk_coverage.proofs.Marks.{routine_is}
use Rattle.zk_coverage.proofs.Outcomes.{if_ok}
use Rattle.zk_coverage.proofs.tally.Report.routine_lines.Goals as goal

pub returns : goal.returns
returns c = if_ok c.count_lines.result _ _ (λ s h up. h up ∙ routine_is _ _ _ _ _ c.points_of-points.ensures
    c.lowest_line-first.ensures) c.count_lines.ensures
