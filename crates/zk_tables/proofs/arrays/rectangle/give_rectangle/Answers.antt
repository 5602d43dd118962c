use Rattle.std.proofs.Common.{◌<◌, ◌≤◌, [], length, get_or, arith}
use Rattle.std.proofs.lemmas.Result.{err_from_is_err_and}
use Rattle.std.proofs.lemmas.List.{take_all}
use Rattle.zk_tables.proofs.Rows.{rows_length, row_is, joined_none, joined_first, refused_first, given_rows}
use Rattle.zk_tables.proofs.Rows.{refused_row}
use Rattle.zk_tables.proofs.arrays.rectangle.give_rectangle.Goals as goal

pub returns-then-rectangle-eq0-clause-ok : goal.returns-then-rectangle-eq0-clause-ok
returns-then-rectangle-eq0-clause-ok g c = λ rows h.
    let size = rows_length c.args.memory.now c.args.rectangle rows h in
    rw (joined_none rows (omega arith)) (g.met.S.Sink.nothing c.args.sink.now)

pub returns-in_err-give_row-clause-err : goal.returns-in_err-give_row-clause-err
returns-in_err-give_row-clause-err g c =
    let p = err_from_is_err_and c.from_residual.result c.from_residual.ensures.1 in
    rw p.1 (λ rows h.
    let size = rows_length c.args.memory.now c.args.rectangle rows h in
    let here = row_is c.args.memory.now c.args.rectangle 0 rows h (omega arith) in
    refused_first (g.S.Sink.refused c.args.sink.now c.give_row.new.sink) rows (omega arith)
    (λ more. c.in_err-give_row.ensures.ends (get_or rows 0 []) more here))

pub loop-row-init : goal.loop-row-init
loop-row-init g c = record {
  so_far = λ rows h.
      let size = rows_length c.args.memory.now c.args.rectangle rows h in
      let here = row_is c.args.memory.now c.args.rectangle 0 rows h (omega arith) in
      rw (joined_first rows (omega arith)) (c.in_ok-give_row.ensures.ok (get_or rows 0 []) here);
  begun = omega arith;
}

pub returns-in_err-give_line-clause-err : goal.returns-in_err-give_line-clause-err
returns-in_err-give_line-clause-err g c =
    let p = err_from_is_err_and c.from_residual-in_err-give_line.result c.from_residual-in_err-give_line.ensures.1 in
    rw p.1 (λ rows h.
    let size = rows_length c.args.memory.now c.args.rectangle rows h in
    let here = row_is c.args.memory.now c.args.rectangle c.loop-row.row rows h c.loop-row-test.true in
    let below : c.loop-row.row < length rows = omega arith in
    refused_row g.S.Sink.gave g.S.Sink.refused g.met.S.Sink.late c.args.sink.now c.loop-row.sink
    c.give_line.new.sink rows c.loop-row.row c.loop-row.invariant.begun below
    (c.loop-row.invariant.so_far rows h)
    (λ more. c.in_err-give_line.ensures.err (get_or rows c.loop-row.row []) more here))

pub loop-row-preserved : goal.loop-row-preserved
loop-row-preserved g c = record {
  so_far = λ rows h.
      let size = rows_length c.args.memory.now c.args.rectangle rows h in
      let here = row_is c.args.memory.now c.args.rectangle c.loop-row.row rows h c.loop-row-test.true in
      let below : c.loop-row.row < length rows = omega arith in
      given_rows g.S.Sink.gave g.met.S.Sink.twice c.args.sink.now c.loop-row.sink c.give_line.new.sink rows
      c.loop-row.row c.loop-row.invariant.begun below (c.loop-row.invariant.so_far rows h)
      (c.in_ok-give_line.ensures.ok (get_or rows c.loop-row.row []) here);
  begun = omega arith;
}

pub returns-clause-ok : goal.returns-clause-ok
returns-clause-ok g c = λ rows h.
    let size = rows_length c.args.memory.now c.args.rectangle rows h in
    let past : length rows ≤ c.loop-row.row = omega arith in
    rw (take_all c.loop-row.row rows past) at (c.loop-row.invariant.so_far rows h)
