use Rattle.std.proofs.Common.{◌≡◌, ◌≤◌, length, take}
use Rattle.zk_term.specs.Grid.{is_blank}
use Rattle.zk_term.specs.Windows.{without_last}
use Rattle.zk_term.proofs.windows.without_last_empty.Given as goal

abbrev pub invariant-loop-end : goal.invariant-loop-end
invariant-loop-end l = record {
  within : l.end ≤ length l.row;
  rest : without_last is_blank (take l.end l.row) ≡ without_last is_blank l.row;
}

abbrev pub decreases-loop-end : goal.decreases-loop-end
decreases-loop-end l = l.end
