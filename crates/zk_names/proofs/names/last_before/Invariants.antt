use Rattle.std.proofs.Common.{◌≡◌, ◌≤◌, length, take}
use Rattle.zk_names.specs.Places.{last_before}
use Rattle.zk_names.proofs.names.last_before.Given as goal

abbrev pub invariant-loop-at : goal.invariant-loop-at
invariant-loop-at l = record {
  same : last_before l.address l.points ≡ last_before l.address (take l.at l.points);
  within : l.at ≤ length l.points;
}
