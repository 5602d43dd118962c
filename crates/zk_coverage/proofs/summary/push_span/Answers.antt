use Rattle.zk_coverage.specs.Reports.{span_line}
use Rattle.zk_coverage.proofs.Outcomes.{on_ok}
use Rattle.zk_coverage.proofs.Summaries.{two_shares}
use Rattle.zk_coverage.proofs.summary.push_span.Goals as goal

pub returns : goal.returns
unfolding span_line
returns c = on_ok c.push_share-2.result _ _ (λ e up. two_shares _ _ _ _ _ _ _ _ _ c.in_ok-push_share.ensures e
    (c.instructions_in.ensures up) (c.texts_in.ensures up)) c.push_share-2.ensures
