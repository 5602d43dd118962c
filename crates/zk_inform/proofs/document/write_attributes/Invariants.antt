use Rattle.std.proofs.Common.{take}
use Rattle.std.specs.List.{flat_map, range_with_len}
use Rattle.zk_inform.specs.Documents.{attribute_item}
use Rattle.zk_inform.specs.Tables.{attribute_count}
use Rattle.zk_inform.proofs.document.write_attributes.Given as goal

abbrev pub invariant-loop-attribute : goal.invariant-loop-attribute
invariant-loop-attribute g l = g.P.LineWriter.wrote l.fn.writer l.writer
    (flat_map (attribute_item l.memory l.table) (take l.attribute (range_with_len 0 (attribute_count l.memory))))
