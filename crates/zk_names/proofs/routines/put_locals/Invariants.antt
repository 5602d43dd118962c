use Rattle.std.proofs.Common.{codes}
use Rattle.zk_names.specs.Nodes.{is_child}
use Rattle.zk_names.specs.Said.{SaysLocal}
use Rattle.zk_names.proofs.Walks.{Adds}
use Rattle.zk_names.proofs.routines.put_locals.Given as goal

abbrev pub invariant-loop-at : goal.invariant-loop-at
invariant-loop-at l =
    Adds SaysLocal (is_child l.section.element.depth (codes "local-variable")) l.section.inside.now l.at
    l.fn.locals.items l.locals.items
