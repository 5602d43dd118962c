use Rattle.std.proofs.Common.{refl}
use Rattle.zk_step.proofs.Ways.{away_faults}
use Rattle.zk_step.proofs.state.finish.go_away.Goals as goal

pub returns-in-Err-clause-value : goal.returns-in-Err-clause-value
returns-in-Err-clause-value c =
    rw (away_faults c.args.game.now c.args.variable c.args.value c.args.continuation c.in-Err.fault c.requires
    c.in-Err.ensures.value) refl
