use Rattle.std.proofs.Common.{◌≡◌, take}
use Rattle.std.specs.Prelude.{filter}
use Rattle.zk_coverage.specs.Coverage.{AreInOrder, never_ran}
use Rattle.zk_coverage.proofs.tally.routines_never_ran.Given as goal

abbrev pub invariant-loop-routine : goal.invariant-loop-routine
invariant-loop-routine l =
    AreInOrder l.ran → l.missed.items ≡ filter (never_ran l.ran) (take l.routine-index l.routines)
