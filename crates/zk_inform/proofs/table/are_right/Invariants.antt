use Rattle.std.proofs.Common.{◌≡◌, ◌-◌, ◌+◌}
use Rattle.std.specs.List.{list_all, range_with_len}
use Rattle.zk_inform.specs.Tables.{are_right, entry_at, not_wrong}
use Rattle.zk_inform.proofs.table.are_right.Given as goal

-- all are right where those that are left are
abbrev pub invariant-loop-before : goal.invariant-loop-before
invariant-loop-before l =
    list_all (λ k. not_wrong (entry_at l.memory l.table.address k))
    (range_with_len (l.before + 1) (l.entries - l.before)) ≡ are_right l.memory l.table l.entries
