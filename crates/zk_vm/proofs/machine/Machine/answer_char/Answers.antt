use Rattle.std.proofs.Common.{ap, sym, refl}
use Rattle.zk_vm.proofs.Answering.{awaits, char_answered, char_fixed, read_sound}
use Rattle.zk_step.specs.declared.state.ending.Event.TheVariants.{Char}
use Rattle.zk_vm.specs.Step.{is_read}
use Rattle.zk_vm.proofs.machine.Machine.answer_char.Goals as goal

pub invariant_of-self-2 : goal.invariant_of-self-2
invariant_of-self-2 c =
    let waits = sym c.in-Some.ensures.value in
    let asked = rw (← c.self.view_is) at c.requires.waits in
    read_sound c.self.inside _ c.in-Some.waiting c.answer_character-answered.result c.self.invariant waits
    (ap is_read (awaits c.self.inside.waiting c.in-Some.waiting Char waits asked)) refl c.in-Some.ensures.after
    c.count_read.ensures.steps c.count_read.ensures.reads refl refl c.answer_character-answered.ensures.bounds
    c.follow.ensures.stopped
    (char_fixed c.self.inside c.in-Some.waiting c.args.code c.answer_character-answered.result
    c.answer_character-answered.new.game c.answer_character-answered.ensures.value)

pub returns-clause-left : goal.returns-clause-left
returns-clause-left c =
    let waits = sym c.in-Some.ensures.value in
    let asked = rw (← c.self.view_is) at c.requires.waits in
    let left = char_answered c.self.inside c.in-Some.waiting c.args.code c.clear.new.self.items
    c.answer_character-answered.result c.answer_character-answered.new.game c.follow.new.pc c.follow.new.stopped
    c.self.invariant waits asked c.clear.ensures
    c.answer_character-answered.ensures.value c.follow.ensures.pc c.follow.ensures.stopped in
    rw (c.in-Some.ensures.after, c.count_read.ensures.reads, c.count_read.ensures.steps, ← c.self.view_is) left
