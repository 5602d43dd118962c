use Rattle.std.proofs.Common.{◌-◌}
use Rattle.std.specs.List.{flat_map}
use Rattle.zk_tables.specs.PropertyList.{properties_from}
use Rattle.zk_inspect.specs.ObjectLines.{properties_or_none}
use Rattle.zk_inspect.proofs.PropertyLines.{one_property, IsWritten}
use Rattle.zk_inspect.proofs.listing.property_lines.list_properties_from.Given as goal

abbrev pub invariant-loop-i : goal.invariant-loop-i
invariant-loop-i g l = IsWritten g.F.FactWriter.wrote (one_property l.object) l.memory l.fn.facts l.facts
    (flat_map (one_property l.object) (properties_or_none (properties_from l.memory l.most l.fn.address)))
    (l.most - l._i) l.at
