use Rattle.std.specs.Str.Lines.{lines}
use Rattle.std.proofs.Common.{◌≡◌, ◌≤◌, ◌+◌, length}
use Rattle.zk_suite.specs.Scripts.{comments, script}
use Rattle.zk_suite.proofs.walkthrough.script_in.Given as goal

abbrev pub invariant-loop-cut : goal.invariant-loop-cut
invariant-loop-cut l = record {
  same : script (lines l.rest) ≡ script (lines l.bytes);
  count : l.count + length (comments (lines l.rest)) ≡ length (comments (lines l.bytes));
  within : l.count + length l.rest ≤ length l.bytes;
}

abbrev pub decreases-loop-cut : goal.decreases-loop-cut
decreases-loop-cut l = length l.rest
