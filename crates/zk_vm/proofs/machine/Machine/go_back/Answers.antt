use Rattle.zk_vm.proofs.Answering.{went_back_by_host}
use Rattle.zk_vm.proofs.machine.Machine.go_back.Goals as goal

pub invariant_of-self : goal.invariant_of-self
invariant_of-self c =
    let asked = rw (← c.self.view_is) at c.requires.waits in
    let both = went_back_by_host c.self.inside c.take.new.memory c.take.new.frames c.in-Some.pc c.take.new.self
    c.resume-led.result c.resume-led.new.game c.go_on.new.pc c.go_on.new.steps c.go_on.new.stopped
    c.go_on.result c.self.invariant asked
    c.in-Some.ensures.value c.in-Some.ensures.most c.in-Some.ensures.are_of c.resume-led.ensures.value
    c.resume-led.ensures.bounds c.go_on.ensures.value c.go_on.ensures.pc c.go_on.ensures.steps
    c.go_on.ensures.stopped in
    both.0

pub returns-in-Some-clause-undone : goal.returns-in-Some-clause-undone
returns-in-Some-clause-undone c =
    let asked = rw (← c.self.view_is) at c.requires.waits in
    let both = went_back_by_host c.self.inside c.take.new.memory c.take.new.frames c.in-Some.pc c.take.new.self
    c.resume-led.result c.resume-led.new.game c.go_on.new.pc c.go_on.new.steps c.go_on.new.stopped
    c.go_on.result c.self.invariant asked
    c.in-Some.ensures.value c.in-Some.ensures.most c.in-Some.ensures.are_of c.resume-led.ensures.value
    c.resume-led.ensures.bounds c.go_on.ensures.value c.go_on.ensures.pc c.go_on.ensures.steps
    c.go_on.ensures.stopped in
    rw (← c.self.view_is) both.1
