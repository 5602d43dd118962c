use Rattle.std.proofs.Common.{◌≡◌, length}
use Rattle.zk_text.specs.Sweeps.{AreKnown}
use Rattle.zk_text.proofs.abbreviations.note_at.Given as goal

abbrev pub invariant-loop-number : goal.invariant-loop-number
invariant-loop-number l = record {
  known : AreKnown l.memory l.known;
  size : length l.known ≡ length l.fn.known;
}
