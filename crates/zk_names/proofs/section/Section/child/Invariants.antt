use Rattle.std.proofs.Common.{◌≡◌, drop, map}
use Rattle.zk_names.specs.Documents.{element_of}
use Rattle.zk_names.specs.Nodes.{is_child, nodes}
use Rattle.zk_names.proofs.section.Section.child.Given as goal

abbrev pub invariant-loop-at : goal.invariant-loop-at
invariant-loop-at l =
    nodes (is_child l.self.element.depth l.name) (map element_of l.self.inside.now)
    ≡ nodes (is_child l.self.element.depth l.name) (map element_of (drop l.at l.self.inside.now))
