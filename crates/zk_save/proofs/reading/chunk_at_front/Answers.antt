use Rattle.std.proofs.Common.{arith}
use Rattle.zk_save.proofs.Cuts.{chunk_short, chunk_cut, chunk_whole}
use Rattle.zk_save.proofs.reading.chunk_at_front.Goals as goal

pub returns-then-bytes-lt8 : goal.returns-then-bytes-lt8
returns-then-bytes-lt8 c = chunk_short c.args.bytes.now c.if-bytes-lt8.true

pub returns-then-bytes-end : goal.returns-then-bytes-end
returns-then-bytes-end c = chunk_cut c.args.bytes.now c.number-size.result (omega (arith, c.if-bytes-lt8.false))
    c.number-size.ensures.value c.if-bytes-end.true

pub returns : goal.returns
returns c = chunk_whole c.args.bytes.now c.number-size.result c.min-next.result
    (omega (arith, c.if-bytes-lt8.false)) c.number-size.ensures.value (omega (arith, c.if-bytes-end.false))
    c.min-next.ensures
