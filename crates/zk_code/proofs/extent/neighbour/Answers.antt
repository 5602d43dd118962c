use Rattle.std.proofs.Common.{refl, ap, Some}
use Rattle.zk_code.specs.Extent.IsNeighbour.{Next}
use Rattle.zk_code.proofs.Extents.{one_neighbour, neighbour_by, only_neighbour, no_neighbour}
use Rattle.zk_code.proofs.extent.neighbour.Goals as goal

pub returns-in-Some-clause-only : goal.returns-in-Some-clause-only
returns-in-Some-clause-only c =
    λ n h. ap Some (one_neighbour c.args.memory.now c.args.start c.in-Some.routine n (Next c.in-Some.ensures.found) h)

pub returns-in-Some-extent-clause-found : goal.returns-in-Some-extent-clause-found
returns-in-Some-extent-clause-found c =
    neighbour_by c.args.memory.now c.args.start c.in-Some-extent.end c.routine_after-in-Some-extent.result
    (c.in_default.ensures.none refl) c.in-Some-extent.ensures.found c.routine_after-in-Some-extent.ensures.found

pub returns-in-Some-extent-clause-only : goal.returns-in-Some-extent-clause-only
returns-in-Some-extent-clause-only c =
    only_neighbour c.args.memory.now c.args.start c.in-Some-extent.end c.routine_after-in-Some-extent.result
    (c.in_default.ensures.none refl) c.in-Some-extent.ensures.found c.routine_after-in-Some-extent.ensures.found
    c.routine_after-in-Some-extent.ensures.none

pub returns-in-None-clause-only : goal.returns-in-None-clause-only
returns-in-None-clause-only c =
    λ n h. absurd (no_neighbour c.args.memory.now c.args.start n (c.in_default.ensures.none refl)
    (c.in-None.ensures.none refl) h)
