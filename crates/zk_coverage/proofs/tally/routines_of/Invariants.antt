use Rattle.std.proofs.Common.{◌≡◌, ◌≤◌, take, count_by}
use Rattle.zk_coverage.specs.Coverage.{AreInOrder, is_of, routine_ran}
use Rattle.zk_coverage.proofs.tally.routines_of.Given as goal

abbrev pub invariant-loop-routine : goal.invariant-loop-routine
invariant-loop-routine l = record {
  bound : (l.share.ran ≤ l.share.listed) × (l.share.listed ≤ l.routine-index);
  listed : l.share.listed ≡ count_by (λ r. is_of l.file r.place) (take l.routine-index l.routines);
  ran : AreInOrder l.ran → l.share.ran ≡ count_by (routine_ran l.ran l.file) (take l.routine-index l.routines);
}
