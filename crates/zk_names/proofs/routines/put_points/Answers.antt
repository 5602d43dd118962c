use Rattle.std.proofs.Common.{arith, rules}
use Rattle.zk_names.specs.Nodes.{as_node}
use Rattle.zk_names.proofs.Walks.{adds_over, adds_skips, adds_takes}
use Rattle.zk_names.proofs.routines.put_points.Goals as goal
use Rattle.zk_names.proofs.routines.put_points.Goals.{else-is_child}
use Rattle.zk_names.proofs.routines.put_points.Goals.{then-is_child+in_ok-point+else-not-is_next+in_ok-put}

pub loop-at-preserved : goal.loop-at-preserved
loop-at-preserved c =
    elim c.if-is_child.branch [
      | then-is_child+in_ok-point+else-not-is_next+in_ok-put w ↦
          adds_takes c.if-is_child.points.items _ w.section_at-part.result.element (as_node w.section_at-part.result)
          c.loop-at.invariant (omega arith) (search rules) w.section_at-part.ensures.element
          w.section_at-part.ensures.node w.in_ok-point.ensures (search rules)
      | else-is_child w ↦
          adds_skips c.if-is_child.points.items c.loop-at.invariant (omega arith) (search rules) (search rules)
    ]

pub returns : goal.returns
returns c = adds_over c.loop-at.invariant (omega arith)
