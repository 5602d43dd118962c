use Rattle.std.proofs.Common.{◌<◌, [], length, get_or, arith}
use Rattle.zk_tables.specs.Rectangles.{rows_of}
use Rattle.zk_tables.proofs.Rows.{rows_length, row_is}
use Rattle.zk_step.proofs.HalfTexts.{row_refused, row_some, some_refused, some_twice}
use Rattle.zk_step.proofs.UpperRows.{ready_rows}
use Rattle.zk_step.proofs.output.parts.give_some_rows.Goals as goal

pub returns-in-Err-clause-err : goal.returns-in-Err-clause-err
returns-in-Err-clause-err g c =
    let r = ready_rows (rows_of c.args.memory.now c.args.rectangle) c.requires.stands in
    let row = c.loop-i.row in
    let size = rows_length c.args.memory.now c.args.rectangle r.0 r.1 in
    let below : row < length r.0 = omega (arith, size, c.if-row-rectangle.false) in
    let here = row_is c.args.memory.now c.args.rectangle row r.0 r.1 (omega (arith, c.if-row-rectangle.false)) in
    let refused = row_refused (g.K.Sink.refused) c.loop-i.sink c.give_next_row.new.sink r.0 row below
    (λ more. c.in-Err.ensures (get_or r.0 row []) more here) in
    some_refused g.K.Sink.gave g.K.Sink.refused g.met.K.Sink.late c.args.sink.now c.loop-i.sink
    c.give_next_row.new.sink _ _ c.loop-i.invariant.gives (rw r.2 refused)

pub loop-i-preserved : goal.loop-i-preserved
loop-i-preserved g c =
    let r = ready_rows (rows_of c.args.memory.now c.args.rectangle) c.requires.stands in
    let row = c.loop-i.row in
    let size = rows_length c.args.memory.now c.args.rectangle r.0 r.1 in
    let below : row < length r.0 = omega (arith, size, c.if-row-rectangle.false) in
    let here = row_is c.args.memory.now c.args.rectangle row r.0 r.1 (omega (arith, c.if-row-rectangle.false)) in
    let some = row_some g.K.Sink.gave c.loop-i.sink c.give_next_row.new.sink r.0 row below
    (c.in-Ok.ensures (get_or r.0 row []) here) in
    record {
      gives = some_twice g.K.Sink.gave g.met.K.Sink.twice c.args.sink.now c.loop-i.sink c.give_next_row.new.sink _
          _ _ c.loop-i.invariant.gives (rw r.2 some);
      within = omega (arith, c.if-row-rectangle.false);
      passed = omega (arith, c.loop-i.invariant.passed);
    }
