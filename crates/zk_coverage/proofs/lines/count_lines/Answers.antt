use Rattle.std.proofs.Common.{◌∙◌, ap}
use Rattle.zk_coverage.specs.Lines.{lines_share}
use Rattle.zk_coverage.proofs.Marks.{shares_are}
use Rattle.zk_coverage.proofs.lines.count_lines.Goals as goal

pub returns : goal.returns
returns c = λ up. c.share_of.ensures ∙ ap lines_share c.as_slice.ensures.value
    ∙ shares_are c.args.ran.now.covered.now c.args.points.now c.args.lines c.in_ok-states.states.items
    c.in_ok-states.ensures.bound (c.in_ok-states.ensures.states up)
