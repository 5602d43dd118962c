use Rattle.std.proofs.Common.{◌≡◌, ◌≤◌, ◌+◌, ◌-◌, ℕ, length, take}
use Rattle.zk_coverage.specs.Coverage.{AreInOrder}
use Rattle.zk_coverage.specs.Lines.{line_state, state_at}
use Rattle.zk_coverage.proofs.lines.states_of.Given as goal

abbrev pub invariant-loop-point : goal.invariant-loop-point
invariant-loop-point l =
    (length l.states.items ≤ 1000001 - l.lines.first)
    × (AreInOrder l.ran → (k : ℕ) → l.lines.first + k ≤ 1000000 → state_at l.states.items k
    ≡ line_state l.ran.covered.now (take l.point-index l.points) l.lines.file (l.lines.first + k))
