use Rattle.zk_inspect.proofs.Lying.{if_texts}
use Rattle.zk_inspect.proofs.texts.find_texts.Goals as goal

pub returns : goal.returns
returns c =
    if_texts c.args.memory.now c.args.code.now _ _ _ _ _ _ c.list.result c.as_slice.ensures c.as_slice-2.ensures
    c.in_ok-marks.ensures.none c.mark_all_printed.ensures.exact c.mark_after_last.ensures.exact
    c.mark_all_next_texts.ensures.exact c.list.ensures
