use Rattle.std.proofs.Common.{rules}
use Rattle.zk_step.specs.Printing.{characters_of}
use Rattle.zk_step.proofs.output.routing.print_units.Goals as goal

pub returns : goal.returns
unfolding characters_of
returns c =
    let here = rw c.of-extra.ensures at c.in-Ok.ensures.ok.2 in
    search (rules, here)
