use Rattle.std.proofs.Common.{sym}
use Rattle.zk_vm.proofs.Answering.{file_restored, no_file_restored}
use Rattle.zk_vm.proofs.machine.Machine.answer_restore.Goals as goal

pub invariant_of-self-in-Some-file : goal.invariant_of-self-in-Some-file
invariant_of-self-in-Some-file c =
    let waits = sym c.in-Some.ensures.value in
    let asked = rw (← c.self.view_is) at c.requires.waits in
    let both = file_restored c.self.inside c.in-Some.waiting _ c.restore_from-answered.result
    c.restore_from-answered.new.game c.go_on.new.pc c.go_on.new.steps c.go_on.new.stopped c.self.invariant waits asked
    c.restore_from-answered.ensures.value c.restore_from-answered.ensures.bounds c.go_on.ensures.pc
    c.go_on.ensures.steps c.go_on.ensures.stopped in
    rw c.in-Some.ensures.after both.0

pub returns-in-Some-file-clause-left : goal.returns-in-Some-file-clause-left
returns-in-Some-file-clause-left c =
    let waits = sym c.in-Some.ensures.value in
    let asked = rw (← c.self.view_is) at c.requires.waits in
    let both = file_restored c.self.inside c.in-Some.waiting _ c.restore_from-answered.result
    c.restore_from-answered.new.game c.go_on.new.pc c.go_on.new.steps c.go_on.new.stopped c.self.invariant waits asked
    c.restore_from-answered.ensures.value c.restore_from-answered.ensures.bounds c.go_on.ensures.pc
    c.go_on.ensures.steps c.go_on.ensures.stopped in
    rw (c.in-Some.ensures.after, ← c.self.view_is, c.in-Some-file.is) both.1

pub invariant_of-self-in-None : goal.invariant_of-self-in-None
invariant_of-self-in-None c =
    let waits = sym c.in-Some.ensures.value in
    let asked = rw (← c.self.view_is) at c.requires.waits in
    let both = no_file_restored c.self.inside c.in-Some.waiting c.answer_result-answered.result
    c.answer_result-answered.new.game c.go_on-in-None.new.pc c.go_on-in-None.new.steps
    c.go_on-in-None.new.stopped c.self.invariant waits asked
    c.answer_result-answered.ensures.value c.answer_result-answered.ensures.bounds c.go_on-in-None.ensures.pc
    c.go_on-in-None.ensures.steps c.go_on-in-None.ensures.stopped in
    rw c.in-Some.ensures.after both.0

pub returns-in-None-clause-left : goal.returns-in-None-clause-left
returns-in-None-clause-left c =
    let waits = sym c.in-Some.ensures.value in
    let asked = rw (← c.self.view_is) at c.requires.waits in
    let both = no_file_restored c.self.inside c.in-Some.waiting c.answer_result-answered.result
    c.answer_result-answered.new.game c.go_on-in-None.new.pc c.go_on-in-None.new.steps
    c.go_on-in-None.new.stopped c.self.invariant waits asked
    c.answer_result-answered.ensures.value c.answer_result-answered.ensures.bounds c.go_on-in-None.ensures.pc
    c.go_on-in-None.ensures.steps c.go_on-in-None.ensures.stopped in
    rw (c.in-Some.ensures.after, ← c.self.view_is, c.in-None.is) both.1
