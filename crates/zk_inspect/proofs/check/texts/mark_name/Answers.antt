use Rattle.std.proofs.Common.{arith}
use Rattle.zk_inspect.proofs.TextMarks.{name_err, name_is, name_not, name_printed, names_more, names_none}
use Rattle.zk_inspect.proofs.check.texts.mark_name.Goals as goal

pub mark_text-requires-clause-printed : goal.mark_text-requires-clause-printed
mark_text-requires-clause-printed c = name_printed c.args.memory.now c.args.count _ _ c.requires.counted
    (omega arith) (omega (arith, c.requires.few)) (name_is _ _ _ c.in-Ok-Some.ensures.value c.in-Ok-Some.field-0-is)

pub returns-in-Ok-Some-clause-names : goal.returns-in-Ok-Some-clause-names
returns-in-Ok-Some-clause-names c = names_more c.args.memory.now c.args.before _ _ _ c.requires.names
    c.mark_text.ensures.keeps (name_is _ _ _ c.in-Ok-Some.ensures.value c.in-Ok-Some.field-0-is)
    c.mark_text.ensures.marked

pub returns-in-Ok-None-clause-names : goal.returns-in-Ok-None-clause-names
returns-in-Ok-None-clause-names c =
    names_none c.args.memory.now c.args.before _ c.requires.names
    (name_not _ _ c.in-Ok-None.ensures.value c.in-Ok-None.field-0-is)

pub returns-in-Err-clause-names : goal.returns-in-Err-clause-names
returns-in-Err-clause-names c =
    names_none c.args.memory.now c.args.before _ c.requires.names (name_err _ _ c.in-Err.ensures.value)
