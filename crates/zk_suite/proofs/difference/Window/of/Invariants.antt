use Rattle.std.specs.Bool.{⊤}
use Rattle.std.proofs.Common.{length}
use Rattle.zk_suite.proofs.difference.Window.of.Given as goal

abbrev pub invariant-loop-cut : goal.invariant-loop-cut
invariant-loop-cut l = ⊤

abbrev pub decreases-loop-cut : goal.decreases-loop-cut
decreases-loop-cut l = length l.rest
