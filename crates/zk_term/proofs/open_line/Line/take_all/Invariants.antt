use Rattle.std.proofs.Common.{◌≡◌, take}
use Rattle.zk_term.specs.OpenLines.{Takes}
use Rattle.zk_term.proofs.open_line.Line.take_all.Given as goal

abbrev pub invariant-loop-byte : goal.invariant-loop-byte
invariant-loop-byte g l = record {
  width : l.self.width ≡ l.fn.self.width;
  taken : Takes g.P.LineWriter.wrote l.fn.self l.self l.fn.writer l.writer (take l.byte-index l.bytes);
}
