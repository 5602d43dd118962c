use Rattle.std.proofs.lemmas.Result.{err_from_is_err_and}
use Rattle.zk_tables.proofs.Rows.{rows_on, rows_fault, rows_fault_later}
use Rattle.zk_tables.proofs.arrays.rectangle.check_rectangle.Goals as goal

pub returns-in_err-check_row : goal.returns-in_err-check_row
returns-in_err-check_row c =
    let p = err_from_is_err_and c.from_residual.result c.from_residual.ensures.1 in
    rw (p.1, p.2) (c.loop-row.invariant.fault _ (rows_fault c.args.memory.now c.args.rectangle c.loop-row.row
    c.args.rectangle.height _ c.loop-row-test.true c.in_err-check_row.ensures))

pub loop-row-preserved : goal.loop-row-preserved
loop-row-preserved c = record {
  readable =
      λ rest. c.loop-row.invariant.readable (rows_on c.args.memory.now c.args.rectangle c.loop-row.row
      c.args.rectangle.height c.loop-row-test.true c.in_ok-check_row.ensures rest);
  fault =
      λ f rest. c.loop-row.invariant.fault f (rows_fault_later c.args.memory.now c.args.rectangle c.loop-row.row
      c.args.rectangle.height f c.loop-row-test.true c.in_ok-check_row.ensures rest);
}
