use Rattle.std.proofs.Common.{◌≡◌, ◌+◌, drop}
use Rattle.zk_suite.proofs.LineCuts.{line_len}
use Rattle.zk_suite.proofs.lines.line_length.Given as goal

abbrev pub invariant-loop-at : goal.invariant-loop-at
invariant-loop-at l = line_len l.bytes ≡ l.at + line_len (drop l.at l.bytes)
