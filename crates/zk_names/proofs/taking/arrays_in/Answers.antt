use Rattle.std.proofs.Common.{arith}
use Rattle.zk_names.proofs.Walks.{over}
use Rattle.zk_names.proofs.taking.arrays_in.Goals as goal

pub returns : goal.returns
returns c = over c.loop-at.invariant (omega arith)
