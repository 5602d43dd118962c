use Rattle.std.proofs.Common.{◌≤◌}
use Rattle.zk_code.proofs.Extents.{IsWalk}
use Rattle.zk_code.proofs.extent.extent.Given as goal

abbrev pub invariant-loop-step : goal.invariant-loop-step
invariant-loop-step l = record {
  walk : IsWalk l.memory l.start l.at l.past;
  on : l._step ≤ l.at;
}
