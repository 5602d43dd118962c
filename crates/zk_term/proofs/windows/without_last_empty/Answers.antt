use Rattle.std.proofs.Common.{◌∙◌, arith, sym}
use Rattle.zk_term.specs.Grid.{is_blank}
use Rattle.zk_term.proofs.Rows.{any_cell, end_back, end_found, end_none}
use Rattle.zk_term.proofs.windows.without_last_empty.Goals as goal
use Rattle.zk_term.proofs.windows.without_last_empty.Goals.{then-loop-end-test+else-is_blank, else-loop-end-test}

pub loop-end-preserved : goal.loop-end-preserved
loop-end-preserved c = record {
  within = omega arith;
  rest = end_back is_blank c.args.row.now c.loop-end.end any_cell c.loop-end-test.true c.loop-end.invariant.within
      (sym c.is_blank.ensures ∙ c.if-is_blank.true) ∙ c.loop-end.invariant.rest;
}

pub returns-clause-value : goal.returns-clause-value
returns-clause-value c = elim c.loop-end-test.branch [
  | then-loop-end-test+else-is_blank w ↦ end_found is_blank c.args.row.now c.loop-end.end any_cell
      w.loop-end-test.true c.loop-end.invariant.within (sym w.is_blank.ensures ∙ w.if-is_blank.false)
      ∙ c.loop-end.invariant.rest
  | else-loop-end-test w ↦ end_none is_blank c.args.row.now c.loop-end.end (omega arith) ∙ c.loop-end.invariant.rest
]
