use Rattle.std.proofs.Common.{take}
use Rattle.std.specs.List.{flat_map}
use Rattle.zk_inspect.specs.Listing.{further_text}
use Rattle.zk_inspect.proofs.reach.operands.write_further.Given as goal

abbrev pub invariant-loop-operand : goal.invariant-loop-operand
invariant-loop-operand g l =
    g.P.LineWriter.wrote l.fn.writer l.writer (flat_map further_text (take l.operand-index l.operands))
