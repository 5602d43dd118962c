use Rattle.std.proofs.Common.{sym}
use Rattle.zk_vm.proofs.Answering.{save_answered}
use Rattle.zk_vm.proofs.machine.Machine.answer_save.Goals as goal

pub invariant_of-self-2 : goal.invariant_of-self-2
invariant_of-self-2 c =
    let waits = sym c.in-Some.ensures.value in
    let asked = rw (← c.self.view_is) at c.requires.waits in
    let both = save_answered c.self.inside c.in-Some.waiting c.args.kept c.truth_word-word.result
    c.answer_result-answered.result c.answer_result-answered.new.game c.go_on.new.pc c.go_on.new.steps
    c.go_on.new.stopped c.self.invariant waits asked c.truth_word-word.ensures
    c.answer_result-answered.ensures.value c.answer_result-answered.ensures.bounds c.go_on.ensures.pc
    c.go_on.ensures.steps c.go_on.ensures.stopped in
    rw c.in-Some.ensures.after both.0

pub returns-clause-left : goal.returns-clause-left
returns-clause-left c =
    let waits = sym c.in-Some.ensures.value in
    let asked = rw (← c.self.view_is) at c.requires.waits in
    let both = save_answered c.self.inside c.in-Some.waiting c.args.kept c.truth_word-word.result
    c.answer_result-answered.result c.answer_result-answered.new.game c.go_on.new.pc c.go_on.new.steps
    c.go_on.new.stopped c.self.invariant waits asked c.truth_word-word.ensures
    c.answer_result-answered.ensures.value c.answer_result-answered.ensures.bounds c.go_on.ensures.pc
    c.go_on.ensures.steps c.go_on.ensures.stopped in
    rw (c.in-Some.ensures.after, ← c.self.view_is) both.1
