use Rattle.std.proofs.Common.{◌≡◌, ◌-◌}
use Rattle.zk_mem.specs.Map.{readable_end}
use Rattle.zk_tables.specs.PropertyList.{properties_from}
use Rattle.zk_inform.specs.Tables.{end_of_list, list_end}
use Rattle.zk_inform.proofs.table.list_end.Given as goal

-- the list ends where what is left of it does
abbrev pub invariant-loop-i : goal.invariant-loop-i
invariant-loop-i l =
    end_of_list l.at (properties_from l.memory (readable_end l.memory - l._i) l.at) ≡ list_end l.memory l.fn.address
