use Rattle.std.proofs.Common.{arith, sym}
use Rattle.std.proofs.lemmas.Grind.{common_steps}
use Rattle.std.proofs.lemmas.Result.{err_from_is_err_and}
use Rattle.zk_code.proofs.OperandSteps.{loop_step, loop_fault}
use Rattle.zk_code.proofs.decode.read_operands.Goals as goal

pub loop-operand_type-preserved : goal.loop-operand_type-preserved
loop-operand_type-preserved c =
    let step = loop_step c.loop-operand_type.operands c.args.memory.now c.args.types.now
    c.loop-operand_type.operand_type-index c.loop-operand_type.at
    c.in_ok-operand.operand c.in_ok-operand.next (omega arith) (sym c.if-is_omitted.ensures)
    (sym c.in_ok-operand.ensures.value) in
    record {
      so_far = cc;
      many = grind (arith, common_steps);
      near = omega (arith, c.in_ok-operand.ensures.near);
    }

pub returns-in_err-operand-clause-value : goal.returns-in_err-operand-clause-value
returns-in_err-operand-clause-value c =
    let p = err_from_is_err_and c.from_residual.result c.from_residual.ensures.1 in
    let fault = loop_fault c.loop-operand_type.operands c.args.memory.now c.args.types.now
    c.loop-operand_type.operand_type-index c.loop-operand_type.at
    c.in_err-operand.field-0.0 (omega arith) (sym c.if-is_omitted.ensures) (sym c.in_err-operand.ensures.value) in
    rw (p.1, p.2) cc
