use Rattle.std.proofs.Common.{subst}
use Rattle.zk_mem.specs.Map.{MemoryMap}
use Rattle.zk_step.specs.Printing.{IsPrintable}
use Rattle.zk_step.proofs.Operands.{operands_memory}
use Rattle.zk_step.proofs.Steps.{operands_refused, effect_refused}
use Rattle.zk_step.proofs.instruction.begin.Goals as goal

pub returns-in-Err-clause-err : goal.returns-in-Err-clause-err
returns-in-Err-clause-err c = operands_refused c.args.game.now c.args.i.now c.in-Err.fault c.in-Err.ensures.value

pub returns-in-Ok-effect-clause-ready : goal.returns-in-Ok-effect-clause-ready
returns-in-Ok-effect-clause-ready c =
    let same = operands_memory c.args.i.now.operands c.args.game.now c.read_operands.new.game c.in-Ok.values
    c.in-Ok.ensures.value in
    subst (λ (m : MemoryMap). IsPrintable m c.effect.new.game.memory c.in-Ok-effect.effect.output
    c.in-Ok-effect.effect.ending) same c.in-Ok-effect.ensures.ready

pub returns-in-Err-effect-clause-err : goal.returns-in-Err-effect-clause-err
returns-in-Err-effect-clause-err c = effect_refused c.args.game.now c.args.i.now c.read_operands.new.game
    c.in-Ok.values c.in-Err-effect.refusal c.in-Ok.ensures.value c.in-Err-effect.ensures.err
