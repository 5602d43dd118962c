use Rattle.zk_vm.proofs.Keeping.{none_kept, one_kept}
use Rattle.zk_vm.proofs.machine.Machine.save_undo.Goals as goal

pub invariant_of-self : goal.invariant_of-self
invariant_of-self c =
    let runs = rw (← c.self.view_is) at c.requires.runs in
    let free = rw (← c.self.view_is) at c.requires.free in
    let room = rw (← c.self.view_is) at c.requires.room in
    let few = rw c.len.ensures.value at c.len.ensures.few in
    let both = none_kept c.self.inside c.args.i.now c.answer_result-led.result c.answer_result-led.new.game
    c.go_on.new.pc c.go_on.new.steps c.go_on.new.stopped c.go_on.result c.self.invariant runs free room
    c.if-self-eq0.true few
    c.answer_result-led.ensures.value c.answer_result-led.ensures.bounds c.go_on.ensures.value c.go_on.ensures.pc
    c.go_on.ensures.steps c.go_on.ensures.stopped in
    both.0

pub returns-then-self-eq0-clause-step : goal.returns-then-self-eq0-clause-step
returns-then-self-eq0-clause-step c =
    let runs = rw (← c.self.view_is) at c.requires.runs in
    let free = rw (← c.self.view_is) at c.requires.free in
    let room = rw (← c.self.view_is) at c.requires.room in
    let few = rw c.len.ensures.value at c.len.ensures.few in
    let both = none_kept c.self.inside c.args.i.now c.answer_result-led.result c.answer_result-led.new.game
    c.go_on.new.pc c.go_on.new.steps c.go_on.new.stopped c.go_on.result c.self.invariant runs free room
    c.if-self-eq0.true few
    c.answer_result-led.ensures.value c.answer_result-led.ensures.bounds c.go_on.ensures.value c.go_on.ensures.pc
    c.go_on.ensures.steps c.go_on.ensures.stopped in
    rw (← c.self.view_is) both.1

pub invariant_of-self-2 : goal.invariant_of-self-2
invariant_of-self-2 c =
    let runs = rw (← c.self.view_is) at c.requires.runs in
    let free = rw (← c.self.view_is) at c.requires.free in
    let room = rw (← c.self.view_is) at c.requires.room in
    let saved = rw c.version.ensures.value at c.pc_of_save-pc.ensures in
    let both = one_kept c.self.inside c.args.i.now c.put.new.self _ c.answer_result-led-2.result
    c.answer_result-led-2.new.game c.go_on-2.new.pc c.go_on-2.new.steps c.go_on-2.new.stopped c.go_on-2.result
    c.self.invariant runs free room c.if-self-eq0.false saved
    c.in_ok-put.ensures.ok c.in_ok-put.ensures.most c.in_ok-put.ensures.are_of c.answer_result-led-2.ensures.value
    c.answer_result-led-2.ensures.bounds c.go_on-2.ensures.value c.go_on-2.ensures.pc c.go_on-2.ensures.steps
    c.go_on-2.ensures.stopped in
    both.0

pub returns-clause-step : goal.returns-clause-step
returns-clause-step c =
    let runs = rw (← c.self.view_is) at c.requires.runs in
    let free = rw (← c.self.view_is) at c.requires.free in
    let room = rw (← c.self.view_is) at c.requires.room in
    let saved = rw c.version.ensures.value at c.pc_of_save-pc.ensures in
    let both = one_kept c.self.inside c.args.i.now c.put.new.self _ c.answer_result-led-2.result
    c.answer_result-led-2.new.game c.go_on-2.new.pc c.go_on-2.new.steps c.go_on-2.new.stopped c.go_on-2.result
    c.self.invariant runs free room c.if-self-eq0.false saved
    c.in_ok-put.ensures.ok c.in_ok-put.ensures.most c.in_ok-put.ensures.are_of c.answer_result-led-2.ensures.value
    c.answer_result-led-2.ensures.bounds c.go_on-2.ensures.value c.go_on-2.ensures.pc c.go_on-2.ensures.steps
    c.go_on-2.ensures.stopped in
    rw (← c.self.view_is) both.1
