use Rattle.std.proofs.Common.{arith, rules}
use Rattle.zk_names.specs.Nodes.{as_node, child, is_child}
use Rattle.zk_names.proofs.Walks.{first_is, none_is}
use Rattle.zk_names.proofs.section.Section.child.Goals as goal

pub returns-then-is_child : goal.returns-then-is_child
unfolding child
returns-then-is_child c = first_is (is_child c.args.self.now.element.depth c.args.name.now) c.args.self.now.inside.now
    c.loop-at.at (as_node c.section_at.result) c.section_at.result.element (omega arith) c.section_at.ensures.element
    (search rules) c.section_at.ensures.node c.loop-at.invariant

pub returns : goal.returns
unfolding child
returns c = none_is (is_child c.args.self.now.element.depth c.args.name.now) c.args.self.now.inside.now
    c.loop-at.at (omega arith) c.loop-at.invariant
