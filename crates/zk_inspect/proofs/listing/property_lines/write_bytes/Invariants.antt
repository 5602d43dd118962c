use Rattle.std.proofs.Common.{take}
use Rattle.std.specs.List.{flat_map, range_with_len}
use Rattle.zk_inspect.specs.PropertyBytes.{byte_text}
use Rattle.zk_inspect.proofs.listing.property_lines.write_bytes.Given as goal

abbrev pub invariant-loop-before : goal.invariant-loop-before
invariant-loop-before g l =
    g.P.LineWriter.wrote l.fn.writer l.writer (flat_map (byte_text l.memory)
    (take l.before (range_with_len l.address l.count)))
