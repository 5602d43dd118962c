use Rattle.std.specs.Str.Lines.{lines}
use Rattle.std.specs.Prelude.{map}
use Rattle.std.proofs.Common.{◌≡◌, ◌≤◌, ◌+◌, ◌++◌, length}
use Rattle.zk_suite.specs.Scripts.{checks_after, checks_of}
use Rattle.zk_suite.specs.Seen.{check_seen}
use Rattle.zk_suite.proofs.walkthrough.Walkthrough.checks.Given as goal

abbrev pub invariant-loop-cut : goal.invariant-loop-cut
invariant-loop-cut l = record {
  whole : map check_seen l.checks.items ++ checks_after l.commands l.line (lines l.rest) ≡ checks_of l.self.bytes.now;
  commands : l.commands + length l.rest ≤ length l.self.bytes.now;
  line : l.line + length l.rest ≤ length l.self.bytes.now;
}

abbrev pub decreases-loop-cut : goal.decreases-loop-cut
decreases-loop-cut l = length l.rest
