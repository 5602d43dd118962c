use Rattle.std.proofs.Common.{arith}
use Rattle.zk_code.specs.Extent.{IsNeighbour}
use Rattle.zk_inspect.proofs.Besides.{neighbour_inside, neighbour_marked, none_marked_more}
use Rattle.zk_inspect.proofs.whole.mark_neighbour.Goals as goal

pub mark-requires : goal.mark-requires
mark-requires c = let lt = neighbour_inside c.args.memory.now c.args.start c.in-Some.routine
    c.in-Some.ensures.found in omega (arith, c.requires.size)

pub returns-in-Some-clause-exact : goal.returns-in-Some-clause-exact
returns-in-Some-clause-exact c =
    let lt = neighbour_inside c.args.memory.now c.args.start c.in-Some.routine c.in-Some.ensures.found in
    neighbour_marked c.args.memory.now c.args.start c.in-Some.routine c.args.marks.now _ c.in-Some.ensures.found
    c.in-Some.ensures.only (omega (arith, c.requires.size)) c.mark.ensures

pub returns-in_default-clause-exact : goal.returns-in_default-clause-exact
returns-in_default-clause-exact c = none_marked_more (IsNeighbour c.args.memory.now c.args.start) c.args.marks.now
    (λ k j. absurd (let e = c.in_default.ensures.only k j in cc))
