use Rattle.std.proofs.Common.{take, ◌-◌}
use Rattle.std.specs.List.{flat_map, range_with_len}
use Rattle.zk_inform.specs.Documents.{property_item}
use Rattle.zk_inform.proofs.document.write_properties.Given as goal

abbrev pub invariant-loop-before : goal.invariant-loop-before
invariant-loop-before g l = g.P.LineWriter.wrote l.fn.writer l.writer
    (flat_map (property_item l.memory l.table) (take l.before (range_with_len 1 (l.table.count - 1))))
