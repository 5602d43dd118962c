use Rattle.std.proofs.Common.{◌<◌, length, arith}
use Rattle.zk_suite.proofs.LineCuts.{last_line, next_line}
use Rattle.zk_suite.proofs.lines.cut_line.Goals as goal

pub returns-then-end-bytes-clause-value : goal.returns-then-end-bytes-clause-value
returns-then-end-bytes-clause-value c =
    let some : 0 < length c.args.bytes.now = grind (arith, c.is_empty.ensures, c.if-is_empty.false) in
    last_line c.args.bytes.now c.line_length-end.result some c.line_length-end.ensures.value c.if-end-bytes.true

pub returns-clause-value : goal.returns-clause-value
returns-clause-value c =
    let more : c.line_length-end.result < length c.args.bytes.now = omega (
      arith,
      c.line_length-end.ensures.within,
      c.if-end-bytes.false,
    ) in
    rw c.without_return.ensures (next_line c.args.bytes.now c.line_length-end.result
    c.line_length-end.ensures.value more)
