use Rattle.std.proofs.Common.{◌≡◌, ◌≤◌, ◌%◌, length}
use Rattle.zk_text.specs.Meaning.{no_abbreviation}
use Rattle.zk_text.specs.Sweeps.{AreKnown, IsTextRestBy}
use Rattle.zk_text.proofs.abbreviations.find_all.Given as goal

abbrev pub invariant-loop-place : goal.invariant-loop-place
invariant-loop-place l = record {
  known : AreKnown l.memory l.known;
  size : length l.known ≡ length l.fn.known;
  even : l.at % 2 ≡ 0;
  near : l.at ≤ 524289;
  rest : IsTextRestBy no_abbreviation l.memory l.at l.rest;
}

abbrev pub decreases-loop-place : goal.decreases-loop-place
decreases-loop-place l = l.at
