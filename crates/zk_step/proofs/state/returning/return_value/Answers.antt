use Rattle.zk_step.specs.Routines.{returned}
use Rattle.zk_step.proofs.WithinBounds.{next_refused}
use Rattle.zk_step.proofs.state.returning.return_value.Goals as goal

pub returns-in-Err-clause-value : goal.returns-in-Err-clause-value
unfolding returned
returns-in-Err-clause-value c = rw c.in_ok-back.ensures (next_refused _ _ _ c.in-Err.ensures.value)
