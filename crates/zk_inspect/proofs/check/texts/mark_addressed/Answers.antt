use Rattle.std.proofs.Common.{sym}
use Rattle.zk_inspect.proofs.TextMarks.{addressed_printed}
use Rattle.zk_inspect.proofs.check.texts.mark_addressed.Goals as goal

pub mark_text-requires-clause-printed : goal.mark_text-requires-clause-printed
mark_text-requires-clause-printed c = addressed_printed c.args.memory.now c.args.address c.args.instr.now _
    c.requires.reached c.requires.stands (sym c.in-Some.ensures.value)
