use Rattle.std.proofs.Common.{take}
use Rattle.std.specs.List.{flat_map, range_with_len}
use Rattle.zk_inform.specs.Documents.{object_item}
use Rattle.zk_inform.proofs.document.write_objects.Given as goal

abbrev pub invariant-loop-before : goal.invariant-loop-before
invariant-loop-before g l = g.P.LineWriter.wrote l.fn.writer l.writer
    (flat_map (object_item l.memory) (take l.before (range_with_len 1 l.objects)))
