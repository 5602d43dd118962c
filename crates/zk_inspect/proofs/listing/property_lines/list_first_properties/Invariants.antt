use Rattle.std.proofs.Common.{take}
use Rattle.std.specs.List.{flat_map, range_with_len}
use Rattle.zk_inspect.specs.PropertyBytes.{object_properties}
use Rattle.zk_inspect.proofs.listing.property_lines.list_first_properties.Given as goal

abbrev pub invariant-loop-before : goal.invariant-loop-before
invariant-loop-before g l =
    g.F.FactWriter.wrote l.fn.facts l.facts (flat_map (object_properties l.memory)
    (take l.before (range_with_len 1 l.count)))
