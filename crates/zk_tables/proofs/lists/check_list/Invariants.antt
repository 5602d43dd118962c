use Rattle.std.proofs.Common.{◌≡◌, ◌-◌}
use Rattle.zk_mem.specs.Map.{readable_end}
use Rattle.zk_tables.specs.PropertyList.{properties_at}
use Rattle.zk_tables.proofs.Steps.{fault_in}
use Rattle.zk_tables.proofs.lists.check_list.Given as goal

-- the fault of the whole list is that of what is left
abbrev pub invariant-loop-first : goal.invariant-loop-first
invariant-loop-first l = fault_in (properties_at l.memory l.at) ≡ fault_in (properties_at l.memory l.fn.address)

-- no byte is read where data has ended
abbrev pub decreases-loop-first : goal.decreases-loop-first
decreases-loop-first l = readable_end l.memory - l.at
