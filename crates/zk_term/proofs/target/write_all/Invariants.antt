use Rattle.std.proofs.Common.{◌≡◌, ◌≤◌, ◌-◌, length, take}
use Rattle.std.specs.Io.KnownBytes.{Appends}
use Rattle.zk_term.proofs.target.write_all.Given as goal

abbrev pub invariant-loop-sent : goal.invariant-loop-sent
invariant-loop-sent g l = record {
  within : l.sent ≤ length l.bytes;
  so_far : Appends (g.T.Target.taken l.fn.target) (g.T.Target.taken l.target) (take l.sent l.bytes);
  sound : g.T.Target.failed l.target ≡ g.T.Target.failed l.fn.target;
}

abbrev pub decreases-loop-sent : goal.decreases-loop-sent
decreases-loop-sent g l = length l.bytes - l.sent
