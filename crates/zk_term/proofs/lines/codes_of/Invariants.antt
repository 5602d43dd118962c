use Rattle.std.proofs.Common.{length, ◌-◌}
use Rattle.zk_term.proofs.Cutting.{Coded}
use Rattle.zk_term.proofs.lines.codes_of.Given as goal

abbrev pub invariant-loop-at : goal.invariant-loop-at
invariant-loop-at l = Coded l.extra l.bytes l.codes.items l.at

abbrev pub decreases-loop-at : goal.decreases-loop-at
decreases-loop-at l = length l.bytes - l.at
