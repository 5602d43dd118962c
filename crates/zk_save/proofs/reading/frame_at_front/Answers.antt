use Rattle.std.proofs.Common.{arith}
use Rattle.zk_save.proofs.Cuts.{frame_short, frame_flags, frame_bits, frame_cut, frame_whole}
use Rattle.zk_save.proofs.reading.frame_at_front.Goals as goal
use Rattle.zk_save.proofs.reading.frame_at_front.Goals.{then-bytes-gt31-via-then-bytes-gt31}
use Rattle.zk_save.proofs.reading.frame_at_front.Goals.{then-bytes-gt31-via-else-bytes-gt31+then-bytes-gt127}

pub returns-then-bytes-lt8-clause-value : goal.returns-then-bytes-lt8-clause-value
returns-then-bytes-lt8-clause-value c = frame_short c.args.bytes.now c.if-bytes-lt8.true

pub returns-then-bytes-gt31-clause-value : goal.returns-then-bytes-gt31-clause-value
returns-then-bytes-gt31-clause-value c = elim c.then-bytes-gt31.branch [
  | then-bytes-gt31-via-then-bytes-gt31 w ↦ frame_flags c.args.bytes.now (omega (arith, c.if-bytes-lt8.false))
      w.if-bytes-gt31.true
  | then-bytes-gt31-via-else-bytes-gt31+then-bytes-gt127 w ↦ frame_bits c.args.bytes.now
      (omega (arith, c.if-bytes-lt8.false)) (omega (arith, w.if-bytes-gt31.false)) w.if-bytes-gt127.true
]

pub returns-then-bytes-end-clause-value : goal.returns-then-bytes-end-clause-value
returns-then-bytes-end-clause-value c =
    frame_cut c.args.bytes.now c.number.result (omega (arith, c.if-bytes-lt8.false))
    (omega (arith, c.if-bytes-gt31.false)) (omega (arith, c.if-bytes-gt127.false)) c.number.ensures.value
    c.if-bytes-end.true

pub returns-clause-value : goal.returns-clause-value
returns-clause-value c =
    frame_whole c.args.bytes.now c.number.result c.number-2.result c.arguments.result c.result_variable.result
    (omega (arith, c.if-bytes-lt8.false)) (omega (arith, c.if-bytes-gt31.false))
    (omega (arith, c.if-bytes-gt127.false)) c.number.ensures.value (omega (arith, c.if-bytes-end.false))
    c.number-2.ensures.value c.result_variable.ensures c.arguments.ensures.value
