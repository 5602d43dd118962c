use Rattle.std.proofs.Common.{subst}
use Rattle.zk_vm.specs.Halts.{IsLeftAs}
use Rattle.zk_vm.specs.Sessions.{Session}
use Rattle.zk_vm.proofs.Turns.{char_given}
use Rattle.zk_vm.proofs.play.answer.Goals as goal

pub returns-in-Char-clause-left : goal.returns-in-Char-clause-left
returns-in-Char-clause-left c =
    let waits = rw c.in-Char.is at c.requires.waits in
    let left = rw c.first_of.ensures at c.answer_char.ensures.left in
    subst (λ (s : Session). IsLeftAs c.answer_char.new.self s s.stopped)
    (char_given c.args.machine.now c.args.codes.now waits) left
