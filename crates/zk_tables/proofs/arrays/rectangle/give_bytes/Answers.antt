use Rattle.std.proofs.Common.{◌≡◌, ◌<◌, length, get_or, arith}
use Rattle.std.proofs.lemmas.Result.{err_from_is_err_and}
use Rattle.zk_tables.proofs.Units.{read_length, read_at, given_more, refused_there, given_all}
use Rattle.zk_tables.proofs.arrays.rectangle.give_bytes.Goals as goal

pub returns-in_err-put-clause-err : goal.returns-in_err-put-clause-err
returns-in_err-put-clause-err g c =
    let p = err_from_is_err_and c.from_residual.result c.from_residual.ensures.1 in
    rw p.1 (λ codes more h.
    let size = read_length c.args.memory.now c.args.table c.args.length codes h in
    let below : c.loop-column.column < length codes = omega arith in
    let there = read_at c.args.memory.now c.args.table c.args.length c.loop-column.column codes h
    c.loop-column-test.true in
    let code : c.unwrap-code.result ≡ get_or codes c.loop-column.column 0 = cc in
    refused_there g.S.Sink.gave g.S.Sink.refused g.met.S.Sink.late c.args.sink.now c.loop-column.sink
    c.put.new.self codes more c.loop-column.column c.unwrap-code.result below code
    (c.loop-column.invariant.so_far codes h) c.in_err-put.ensures.err)

pub loop-column-preserved : goal.loop-column-preserved
loop-column-preserved g c = record {
  so_far = λ codes h.
      let size = read_length c.args.memory.now c.args.table c.args.length codes h in
      let below : c.loop-column.column < length codes = omega arith in
      let there = read_at c.args.memory.now c.args.table c.args.length c.loop-column.column codes h
      c.loop-column-test.true in
      let code : c.unwrap-code.result ≡ get_or codes c.loop-column.column 0 = cc in
      given_more g.S.Sink.gave g.met.S.Sink.twice c.args.sink.now c.loop-column.sink c.put.new.self codes
      c.loop-column.column c.unwrap-code.result below code (c.loop-column.invariant.so_far codes h)
      c.in_ok-put.ensures.ok;
}

pub returns-clause-ok : goal.returns-clause-ok
returns-clause-ok g c = λ codes h.
    let size = read_length c.args.memory.now c.args.table c.args.length codes h in
    given_all (g.S.Sink.gave c.args.sink.now c.loop-column.sink) codes c.loop-column.column (omega arith)
    (c.loop-column.invariant.so_far codes h)
