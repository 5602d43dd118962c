use Rattle.std.proofs.Common.{sym}
use Rattle.zk_vm.proofs.Answering.{refused_told}
use Rattle.zk_vm.proofs.machine.answers.restore_from.Goals as goal

pub returns-in-None-clause-value : goal.returns-in-None-clause-value
returns-in-None-clause-value c =
    let refused = c.in-Err.ensures.value in
    let none = c.in-None.ensures in
    refused_told c.args.game.now c.args.i.now c.args.file.now c.in-Err.error c.restore.new.memory
    c.restore.new.frames c.answer_result.result c.answer_result.new.game refused.0 refused.1 refused.2
    (sym none) c.answer_result.ensures.value
