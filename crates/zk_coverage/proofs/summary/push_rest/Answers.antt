use Rattle.zk_coverage.specs.Tallies.{rest_line}
use Rattle.zk_coverage.proofs.Outcomes.{on_ok}
use Rattle.zk_coverage.proofs.Summaries.{titled_shares}
use Rattle.zk_coverage.proofs.summary.push_rest.Goals as goal

pub returns : goal.returns
unfolding rest_line
returns c = on_ok c.push_share-2.result _ _ (λ e up. titled_shares _ _ _ _ _ _ _ _ _ _ _
    c.in_ok-extend_from_slice.ensures.items c.in_ok-push_share.ensures e (c.routines_of-routines.ensures up)
    (c.texts_of-texts.ensures up)) c.push_share-2.ensures
