use Rattle.std.proofs.Common.{ap, sym, refl}
use Rattle.zk_vm.specs.Step.{is_read}
use Rattle.zk_vm.proofs.Answering.{line_fixed, line_typed, read_sound}
use Rattle.zk_vm.proofs.machine.Machine.answer_line.Goals as goal

pub invariant_of-self-in-Line : goal.invariant_of-self-in-Line
invariant_of-self-in-Line c =
    let waits = sym c.in-Some.ensures.value in
    read_sound c.self.inside _ c.in-Some.waiting c.answer_line-answered.result c.self.invariant waits
    (ap is_read c.in-Line.is) refl c.in-Some.ensures.after c.count_read.ensures.steps c.count_read.ensures.reads
    refl refl c.answer_line-answered.ensures.bounds c.follow.ensures.stopped
    (line_fixed c.self.inside c.in-Some.waiting c.in-Line.text c.in-Line.parse c.args.codes.now c.args.ended
    c.answer_line-answered.result c.answer_line-answered.new.game c.answer_line-answered.ensures.value)

pub returns-in-Line-clause-left : goal.returns-in-Line-clause-left
returns-in-Line-clause-left c =
    let waits = sym c.in-Some.ensures.value in
    let left = line_typed c.self.inside c.in-Some.waiting c.in-Line.text c.in-Line.parse c.args.codes.now c.args.ended
    c.transcribe-self-inside.result.items c.answer_line-answered.result c.answer_line-answered.new.game
    c.follow.new.pc c.follow.new.stopped c.self.invariant waits c.in-Line.is
    c.transcribe-self-inside.ensures c.answer_line-answered.ensures.value c.follow.ensures.pc
    c.follow.ensures.stopped in
    rw (c.in-Some.ensures.after, c.count_read.ensures.reads, c.count_read.ensures.steps, ← c.self.view_is) left
