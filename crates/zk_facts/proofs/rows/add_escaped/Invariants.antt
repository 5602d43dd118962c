use Rattle.std.proofs.Common.{◌≡◌, ◌++◌, take}
use Rattle.std.specs.List.{flat_map}
use Rattle.zk_facts.specs.Rows.{escaped}
use Rattle.zk_facts.proofs.rows.add_escaped.Given as goal

abbrev pub invariant-loop-byte : goal.invariant-loop-byte
invariant-loop-byte l = l.row.items ≡ l.fn.row.items ++ flat_map escaped (take l.byte-index l.byte-items)
