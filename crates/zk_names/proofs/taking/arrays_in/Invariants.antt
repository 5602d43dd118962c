use Rattle.std.proofs.Common.{codes}
use Rattle.zk_names.specs.Nodes.{is_child}
use Rattle.zk_names.specs.Said.{SaysArray}
use Rattle.zk_names.proofs.Walks.{Goes}
use Rattle.zk_names.proofs.taking.arrays_in.Given as goal

abbrev pub invariant-loop-at : goal.invariant-loop-at
invariant-loop-at l = Goes SaysArray (is_child 0 (codes "array")) l.elements l.at l.arrays.items
