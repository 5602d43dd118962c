use Rattle.std.proofs.Common.{◌≡◌, length}
use Rattle.zk_text.specs.Sweeps.{AreFaults, AreKnown}
use Rattle.zk_text.proofs.sweep.list_faults.Given as goal

abbrev pub invariant-loop-number : goal.invariant-loop-number
invariant-loop-number l = record {
  faults : AreFaults l.memory l.faults.items;
  size : length l.faults.items ≡ l.number;
  known : AreKnown l.memory l.outside.known;
}
