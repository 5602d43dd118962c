use Rattle.std.proofs.Common.{◌∙◌, ap, sym, arith}
use Rattle.zk_mem.specs.declared.header.Header.{Header}
use Rattle.zk_inspect.proofs.TableMarks.{table_ends, table_missing}
use Rattle.zk_inspect.proofs.check.texts.mark_table.Goals as goal

pub returns-then-header-eq0 : goal.returns-then-header-eq0
returns-then-header-eq0 c =
    table_missing c.args.memory.now _ _ (sym (ap (λ (h : Header). h.abbreviations) c.header.ensures)
    ∙ c.if-header-eq0.true) c.requires

pub returns : goal.returns
returns c = table_ends c.args.memory.now c.loop-number.number _ _ (let a = c.loop-number-test.false in
    omega arith) c.loop-number.invariant
