use Rattle.std.specs.Str.Lines.{lines}
use Rattle.std.proofs.Common.{◌≡◌, ◌++◌, length}
use Rattle.zk_suite.specs.Scripts.{commands_of, typed}
use Rattle.zk_suite.proofs.walkthrough.Walkthrough.commands.Given as goal

abbrev pub invariant-loop-cut : goal.invariant-loop-cut
invariant-loop-cut l = l.out.items ++ typed (lines l.rest) ≡ commands_of l.self.bytes.now

abbrev pub decreases-loop-cut : goal.decreases-loop-cut
decreases-loop-cut l = length l.rest
