use Rattle.std.proofs.Common.{◌∙◌}
use Rattle.zk_coverage.proofs.Summaries.{address_more}
use Rattle.zk_coverage.proofs.summary.push_addresses.Goals as goal

pub loop-index-preserved : goal.loop-index-preserved
loop-index-preserved c = λ up. address_more c.args.ran.now c.args.ran.now.routines.now c.loop-index.index _ _ _ _ _ _
    c.loop-index-test.true (c.loop-index.invariant up) (c.as_bytes.ensures.value ∙ c.in_ok-digits.ensures)
    c.in_ok-push_all.ensures (c.in_ok-push_span.ensures up) c.span_at.ensures
