use Rattle.std.proofs.Common.{map, take}
use Rattle.zk_inspect.specs.Ifid.{capital_letter}
use Rattle.zk_inspect.proofs.listing.ifid_line.write_own_name.Given as goal

abbrev pub invariant-loop-byte : goal.invariant-loop-byte
invariant-loop-byte g l = g.P.LineWriter.wrote l.fn.writer l.writer (map capital_letter (take l.byte-index l.name))
