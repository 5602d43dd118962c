use Rattle.zk_inspect.proofs.TableMarks.{table_begins}
use Rattle.zk_inspect.proofs.check.texts.mark_all_texts.Goals as goal

pub mark_table-requires : goal.mark_table-requires
mark_table-requires c = table_begins c.args.memory.now _ _ c.in_ok-abbreviations.ensures.size
    c.in_ok-unread.ensures.size c.in_ok-abbreviations.ensures.none c.in_ok-unread.ensures.none

pub returns : goal.returns
returns c = record {
  size = c.in_ok-printed.ensures.size;
  printed = c.in_ok-printed.ensures.exact;
  table = c.mark_table.ensures;
}
