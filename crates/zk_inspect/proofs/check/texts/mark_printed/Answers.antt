use Rattle.zk_inspect.proofs.TextMarks.{names_kept, none_text_marks, printed_exact}
use Rattle.zk_inspect.proofs.check.texts.mark_printed.Goals as goal

pub mark_names-requires-clause-marks : goal.mark_names-requires-clause-marks
mark_names-requires-clause-marks c =
    none_text_marks c.args.memory.now _ c.in_ok-marks.ensures.size c.in_ok-marks.ensures.none

pub returns-clause-exact : goal.returns-clause-exact
returns-clause-exact c = printed_exact c.args.memory.now c.args.count _ c.mark_code.ensures.marks
    c.requires.counted (names_kept c.args.memory.now c.args.count _ _ c.mark_names.ensures.names
    c.mark_code.ensures.keeps) c.mark_code.ensures.texts
