use Rattle.std.proofs.Common.{arith}
use Rattle.zk_inspect.proofs.TextMarks.{inline_printed, text_inside}
use Rattle.zk_inspect.proofs.check.texts.mark_inline.Goals as goal

pub mark_text-requires-clause-printed : goal.mark_text-requires-clause-printed
mark_text-requires-clause-printed c = inline_printed c.args.memory.now c.args.address c.args.instr.now _
    c.requires.reached c.requires.stands c.in-Some.is

pub mark_text-requires-clause-near : goal.mark_text-requires-clause-near
mark_text-requires-clause-near c = let le = text_inside c.args.memory.now c.args.address c.args.instr.now _ _
    c.requires.stands c.in-Some.is in omega (arith, c.len.ensures.value, c.len.ensures.bound)
