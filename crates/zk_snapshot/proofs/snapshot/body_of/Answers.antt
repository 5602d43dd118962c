use Rattle.std.proofs.Common.{arith}
use Rattle.zk_snapshot.proofs.Fitting.{as_many}
use Rattle.zk_snapshot.proofs.snapshot.body_of.Goals as goal

pub put_states-requires-clause-count : goal.put_states-requires-clause-count
put_states-requires-clause-count c =
    omega (arith, c.requires.count, as_many c.args.machine.now c.undo.result.now c.undo.ensures.states)
