use Rattle.std.specs.Str.Lines.{lines}
use Rattle.std.proofs.Common.{◌≤◌, ◌+◌, length}
use Rattle.zk_suite.proofs.Differing.{SameSoFar}
use Rattle.zk_suite.proofs.difference.first_difference.Given as goal

abbrev pub invariant-loop-line : goal.invariant-loop-line
invariant-loop-line l = record {
  same : SameSoFar (lines l.wanted) (lines l.played) (lines l.left) (lines l.right) l.number;
  within : l.number + length l.left ≤ length l.wanted + 1;
}

abbrev pub decreases-loop-line : goal.decreases-loop-line
decreases-loop-line l = length l.left
