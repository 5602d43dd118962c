use Rattle.std.proofs.Common.{◌≡◌, ◌≤◌, take, count_by}
use Rattle.zk_coverage.specs.Coverage.{AreInOrder, span_of, was_entered}
use Rattle.zk_coverage.proofs.tally.all_routines.Given as goal

abbrev pub invariant-loop-routine : goal.invariant-loop-routine
invariant-loop-routine l =
    (l.entered ≤ l.routine-index)
    × (AreInOrder l.ran → l.entered
    ≡ count_by (λ r. was_entered l.ran (span_of r)) (take l.routine-index l.routines))
