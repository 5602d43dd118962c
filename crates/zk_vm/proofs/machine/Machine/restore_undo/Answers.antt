use Rattle.zk_vm.proofs.Keeping.{went_back, stays}
use Rattle.zk_vm.proofs.machine.Machine.restore_undo.Goals as goal

pub invariant_of-self : goal.invariant_of-self
invariant_of-self c =
    let runs = rw (← c.self.view_is) at c.requires.runs in
    let free = rw (← c.self.view_is) at c.requires.free in
    let room = rw (← c.self.view_is) at c.requires.room in
    let both = went_back c.self.inside c.args.i.now c.take.new.memory c.take.new.frames c.in-Some.pc
    c.take.new.self c.resume-led.result c.resume-led.new.game c.go_on.new.pc c.go_on.new.steps
    c.go_on.new.stopped c.go_on.result c.self.invariant runs free room
    c.in-Some.ensures.value c.in-Some.ensures.most c.in-Some.ensures.are_of c.resume-led.ensures.value
    c.resume-led.ensures.bounds c.go_on.ensures.value c.go_on.ensures.pc c.go_on.ensures.steps
    c.go_on.ensures.stopped in
    both.0

pub returns-in-Some-clause-step : goal.returns-in-Some-clause-step
returns-in-Some-clause-step c =
    let runs = rw (← c.self.view_is) at c.requires.runs in
    let free = rw (← c.self.view_is) at c.requires.free in
    let room = rw (← c.self.view_is) at c.requires.room in
    let both = went_back c.self.inside c.args.i.now c.take.new.memory c.take.new.frames c.in-Some.pc
    c.take.new.self c.resume-led.result c.resume-led.new.game c.go_on.new.pc c.go_on.new.steps
    c.go_on.new.stopped c.go_on.result c.self.invariant runs free room
    c.in-Some.ensures.value c.in-Some.ensures.most c.in-Some.ensures.are_of c.resume-led.ensures.value
    c.resume-led.ensures.bounds c.go_on.ensures.value c.go_on.ensures.pc c.go_on.ensures.steps
    c.go_on.ensures.stopped in
    rw (← c.self.view_is) both.1

pub invariant_of-self-in-None : goal.invariant_of-self-in-None
invariant_of-self-in-None c =
    let runs = rw (← c.self.view_is) at c.requires.runs in
    let free = rw (← c.self.view_is) at c.requires.free in
    let room = rw (← c.self.view_is) at c.requires.room in
    let none = c.in-None.ensures.value in
    let both = stays c.self.inside c.args.i.now c.take.new.memory c.take.new.frames c.take.new.self
    c.answer_result-led.result c.answer_result-led.new.game c.go_on-in-None.new.pc c.go_on-in-None.new.steps
    c.go_on-in-None.new.stopped c.go_on-in-None.result c.self.invariant runs free room
    none.0 none.1 none.2 none.3 c.answer_result-led.ensures.value c.answer_result-led.ensures.bounds
    c.go_on-in-None.ensures.value c.go_on-in-None.ensures.pc c.go_on-in-None.ensures.steps
    c.go_on-in-None.ensures.stopped in
    both.0

pub returns-in-None-clause-step : goal.returns-in-None-clause-step
returns-in-None-clause-step c =
    let runs = rw (← c.self.view_is) at c.requires.runs in
    let free = rw (← c.self.view_is) at c.requires.free in
    let room = rw (← c.self.view_is) at c.requires.room in
    let none = c.in-None.ensures.value in
    let both = stays c.self.inside c.args.i.now c.take.new.memory c.take.new.frames c.take.new.self
    c.answer_result-led.result c.answer_result-led.new.game c.go_on-in-None.new.pc c.go_on-in-None.new.steps
    c.go_on-in-None.new.stopped c.go_on-in-None.result c.self.invariant runs free room
    none.0 none.1 none.2 none.3 c.answer_result-led.ensures.value c.answer_result-led.ensures.bounds
    c.go_on-in-None.ensures.value c.go_on-in-None.ensures.pc c.go_on-in-None.ensures.steps
    c.go_on-in-None.ensures.stopped in
    rw (← c.self.view_is) both.1
