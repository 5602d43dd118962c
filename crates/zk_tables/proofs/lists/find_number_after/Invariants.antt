use Rattle.std.proofs.Common.{◌≡◌, ◌-◌}
use Rattle.zk_mem.specs.Map.{readable_end}
use Rattle.zk_tables.specs.PropertyList.{number_after_at}
use Rattle.zk_tables.proofs.lists.find_number_after.Given as goal

abbrev pub invariant-loop-first : goal.invariant-loop-first
invariant-loop-first l = number_after_at l.memory l.at l.fn.number ≡ number_after_at l.memory l.fn.address l.fn.number

-- no byte is read where data has ended
abbrev pub decreases-loop-first : goal.decreases-loop-first
decreases-loop-first l = readable_end l.memory - l.at
