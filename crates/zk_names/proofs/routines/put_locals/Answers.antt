use Rattle.std.proofs.Common.{arith, rules}
use Rattle.zk_names.specs.Nodes.{as_node}
use Rattle.zk_names.proofs.Walks.{adds_over, adds_skips, adds_takes}
use Rattle.zk_names.proofs.routines.put_locals.Goals as goal
use Rattle.zk_names.proofs.routines.put_locals.Goals.{else-is_child, then-is_child+in_ok-local_in+in_ok-put}

pub loop-at-preserved : goal.loop-at-preserved
loop-at-preserved c =
    elim c.if-is_child.branch [
      | then-is_child+in_ok-local_in+in_ok-put w ↦
          adds_takes c.if-is_child.locals.items _ w.section_at-part.result.element (as_node w.section_at-part.result)
          c.loop-at.invariant (omega arith) (search rules) w.section_at-part.ensures.element
          w.section_at-part.ensures.node w.in_ok-local_in.ensures (search rules)
      | else-is_child w ↦
          adds_skips c.if-is_child.locals.items c.loop-at.invariant (omega arith) (search rules) (search rules)
    ]

pub returns : goal.returns
returns c = adds_over c.loop-at.invariant (omega arith)
