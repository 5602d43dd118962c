use Rattle.std.proofs.Common.{arith}
use Rattle.zk_names.proofs.Taken.{keeps_over}
use Rattle.zk_names.proofs.routines.routines_in.Goals as goal

pub returns : goal.returns
returns c = keeps_over c.loop-at.invariant (omega arith)
