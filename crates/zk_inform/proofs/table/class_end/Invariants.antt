use Rattle.std.proofs.Common.{◌≡◌, ◌-◌, ◌+◌, ◌*◌, ◌≤◌}
use Rattle.zk_inform.specs.Tables.{class_end}
use Rattle.zk_inform.proofs.table.class_end.Given as goal

-- the numbers end where those that are left do
abbrev pub invariant-loop-i : goal.invariant-loop-i
invariant-loop-i l = record {
  left : class_end l.memory l.objects (l.objects + 1 - l._i) l.at
      ≡ class_end l.memory l.objects (l.objects + 1) l.fn.address;
  near : l.at ≤ l.fn.address + 2 * l._i;
}
