use Rattle.std.proofs.Common.{arith, ap, length, ◌∙◌}
use Rattle.std.proofs.lemmas.Grind.{common_steps}
use Rattle.zk_step.proofs.Operands.{value_step, value_fault, value_end}
use Rattle.zk_step.proofs.state.values.read_operands.Goals as goal

pub loop-operand-preserved : goal.loop-operand-preserved
loop-operand-preserved c =
    let step = value_step c.loop-operand.values c.loop-operand.game c.args.operands.now
    c.loop-operand.operand-index c.read_operand.new.game c.in-Ok.value
    (omega (arith, ap length c.as_slice-operand-items.ensures.value))
    (rw c.as_slice-operand-items.ensures.value at c.in-Ok.ensures.value) in
    record {
      so_far = cc;
      many = grind (arith, common_steps);
      bounds = c.in-Ok.ensures.bounds
          ∙ c.loop-operand.invariant.bounds;
    }

pub returns-in-Err-clause-value : goal.returns-in-Err-clause-value
returns-in-Err-clause-value c =
    let fault = value_fault c.loop-operand.values c.loop-operand.game c.args.operands.now
    c.loop-operand.operand-index c.in-Err.fault
    (omega (arith, ap length c.as_slice-operand-items.ensures.value))
    (rw c.as_slice-operand-items.ensures.value at c.in-Err.ensures.value) in
    cc

pub returns-clause-value : goal.returns-clause-value
returns-clause-value c =
    let end = value_end c.loop-operand.values c.loop-operand.game c.args.operands.now c.loop-operand.operand-index
    (omega (arith, ap length c.as_slice-operand-items.ensures.value)) in
    cc
