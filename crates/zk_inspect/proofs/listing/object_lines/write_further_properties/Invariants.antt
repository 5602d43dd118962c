use Rattle.std.proofs.Common.{◌-◌}
use Rattle.std.specs.List.{flat_map}
use Rattle.zk_tables.specs.PropertyList.{properties_from}
use Rattle.zk_inspect.specs.ObjectLines.{properties_or_none}
use Rattle.zk_inspect.proofs.PropertyLines.{IsWritten, behind_comma}
use Rattle.zk_inspect.proofs.listing.object_lines.write_further_properties.Given as goal

abbrev pub invariant-loop-i : goal.invariant-loop-i
invariant-loop-i g l = IsWritten g.P.LineWriter.wrote behind_comma l.memory l.fn.writer l.writer
    (flat_map behind_comma (properties_or_none (properties_from l.memory l.most l.fn.address))) (l.most - l._i) l.at
