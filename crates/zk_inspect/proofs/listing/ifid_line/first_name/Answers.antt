use Rattle.std.proofs.Common.{sym, ◌∙◌}
use Rattle.zk_inspect.proofs.StoryNames.{first_here, first_on}
use Rattle.zk_inspect.proofs.listing.ifid_line.first_name.Goals as goal

pub returns-in-Some : goal.returns-in-Some
returns-in-Some c =
    sym (c.loop-at.invariant ∙ first_here c.args.file.now c.in-Some.name.now c.loop-at.at c.loop-at-test.true
    (sym c.in-Some.ensures))

pub loop-at-preserved : goal.loop-at-preserved
loop-at-preserved c =
    c.loop-at.invariant ∙ first_on c.args.file.now c.loop-at.at c.loop-at-test.true (sym c.in-None.ensures)
