use Rattle.std.proofs.Common.{codes}
use Rattle.zk_names.specs.Nodes.{is_child}
use Rattle.zk_names.specs.Said.{SaysSource}
use Rattle.zk_names.proofs.Walks.{Goes}
use Rattle.zk_names.proofs.taking.sources_in.Given as goal

abbrev pub invariant-loop-at : goal.invariant-loop-at
invariant-loop-at l = Goes SaysSource (is_child 0 (codes "source")) l.elements l.at l.sources.items
