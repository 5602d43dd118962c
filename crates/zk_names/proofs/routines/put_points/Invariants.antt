use Rattle.std.proofs.Common.{codes}
use Rattle.zk_names.specs.Nodes.{is_child}
use Rattle.zk_names.specs.Said.{SaysPoint}
use Rattle.zk_names.proofs.Walks.{Adds}
use Rattle.zk_names.proofs.routines.put_points.Given as goal

abbrev pub invariant-loop-at : goal.invariant-loop-at
invariant-loop-at l =
    Adds SaysPoint (is_child l.section.element.depth (codes "sequence-point")) l.section.inside.now l.at
    l.fn.points.items l.points.items
