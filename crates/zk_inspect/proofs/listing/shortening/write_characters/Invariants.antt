use Rattle.std.proofs.Common.{take}
use Rattle.zk_inspect.specs.Listing.{quoted_bytes}
use Rattle.zk_inspect.proofs.listing.shortening.write_characters.Given as goal

abbrev pub invariant-loop-c : goal.invariant-loop-c
invariant-loop-c g l = g.P.LineWriter.wrote l.fn.writer l.writer (quoted_bytes (take l.c-index l.characters))
