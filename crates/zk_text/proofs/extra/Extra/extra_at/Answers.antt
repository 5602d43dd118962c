use Rattle.std.proofs.Common.{sym, ◌∙◌, arith}
use Rattle.zk_text.proofs.Tables.{own_item}
use Rattle.zk_text.proofs.extra.Extra.extra_at.Goals as goal

pub returns-then-index-min : goal.returns-then-index-min
returns-then-index-min c =
    c.code_word.ensures.value
    ∙ own_item c.args.self.now c.self.inside.memory.now c.self.inside.own c.in-Some.table c.args.index
    (sym c.self.view_is) c.in-Some.is c.self.invariant (omega arith)
