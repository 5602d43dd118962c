use Rattle.std.proofs.Common.{codes, decimal}
use Rattle.zk_coverage.specs.Page.{cell}
use Rattle.zk_coverage.specs.Reports.{share_of}
use Rattle.zk_coverage.proofs.Outcomes.{on_ok}
use Rattle.zk_coverage.proofs.Summaries.{three_parts}
use Rattle.zk_coverage.proofs.html.push_cell.Goals as goal

pub returns : goal.returns
unfolding cell
returns c = on_ok c.push_share.result _ _ (λ e. three_parts c.args.page.now.items _ _ _
    (codes "<td><meter value=\"") (decimal c.args.share.ran) (codes "\" max=\"") (decimal c.args.share.listed)
    (codes "\"></meter>") (share_of c.args.share (codes "</td>")) c.in_ok-push_count.ensures
    c.in_ok-push_number.ensures e) c.push_share.ensures
