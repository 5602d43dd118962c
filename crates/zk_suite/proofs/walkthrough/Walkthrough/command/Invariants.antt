use Rattle.std.specs.Str.Lines.{lines}
use Rattle.std.specs.Prelude.{slice_get}
use Rattle.std.proofs.Common.{◌≡◌, ◌≤◌, ◌+◌, length}
use Rattle.zk_suite.specs.Scripts.{commands_after, numbered_commands}
use Rattle.zk_suite.proofs.walkthrough.Walkthrough.command.Given as goal

abbrev pub invariant-loop-cut : goal.invariant-loop-cut
invariant-loop-cut l = record {
  whole : slice_get (commands_after l.number (lines l.rest)) l.left
      ≡ slice_get (numbered_commands l.self.bytes.now) l.others;
  number : l.number + length l.rest ≤ length l.self.bytes.now;
}

abbrev pub decreases-loop-cut : goal.decreases-loop-cut
decreases-loop-cut l = length l.rest
