use Rattle.std.proofs.Common.{◌≡◌, codes, drop, map}
use Rattle.zk_names.specs.Documents.{element_of}
use Rattle.zk_names.specs.Nodes.{is_child, nodes}
use Rattle.zk_names.proofs.taking.prefix_in.Given as goal

abbrev pub invariant-loop-at : goal.invariant-loop-at
invariant-loop-at l =
    nodes (is_child 0 (codes "story-file-prefix")) (map element_of l.elements)
    ≡ nodes (is_child 0 (codes "story-file-prefix")) (map element_of (drop l.at l.elements))
