use Rattle.std.proofs.Common.{◌≡◌, ◌≤◌, length, map, take}
use Rattle.zk_term.specs.Windows.{without_last, is_space, character_of}
use Rattle.zk_term.proofs.windows.without_last_spaces.Given as goal

abbrev pub invariant-loop-end : goal.invariant-loop-end
invariant-loop-end l = record {
  within : l.end ≤ length l.row;
  rest : without_last is_space (take l.end (map character_of l.row)) ≡ without_last is_space (map character_of l.row);
}

abbrev pub decreases-loop-end : goal.decreases-loop-end
decreases-loop-end l = l.end
