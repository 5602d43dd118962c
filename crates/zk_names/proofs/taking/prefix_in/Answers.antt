use Rattle.std.proofs.Common.{arith, codes, rules, sym}
use Rattle.std.proofs.lemmas.Result.{IfOk-weaker}
use Rattle.zk_names.specs.Nodes.{as_node, is_child}
use Rattle.zk_names.proofs.Walks.{first_is}
use Rattle.zk_names.proofs.taking.prefix_in.Goals as goal

pub returns-then-is_child : goal.returns-then-is_child
returns-then-is_child c =
    IfOk-weaker c.decoded.result _ _ (λ v h.
    record {
      node = as_node c.section_at-section.result;
      first = sym (first_is (is_child 0 (codes "story-file-prefix")) c.args.elements.now c.loop-at.at
          (as_node c.section_at-section.result) c.section_at-section.result.element (omega arith)
          c.section_at-section.ensures.element (search rules) c.section_at-section.ensures.node c.loop-at.invariant);
      decoded = h;
    }) c.decoded.ensures
