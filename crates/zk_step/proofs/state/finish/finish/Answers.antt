use Rattle.zk_step.specs.Finish.{finished}
use Rattle.zk_step.proofs.WithinBounds.{next_told}
use Rattle.zk_step.proofs.state.finish.finish.Goals as goal

pub returns-in-GoOn-clause-value : goal.returns-in-GoOn-clause-value
unfolding finished
returns-in-GoOn-clause-value c = rw (c.in-GoOn.is, c.next_at.ensures) (next_told _ _ _ c.go_on.ensures.value)

pub returns-in-Jump-clause-value : goal.returns-in-Jump-clause-value
unfolding finished
returns-in-Jump-clause-value c = rw (c.in-Jump.is, c.next_at-in-Jump.ensures) (next_told _ _ _ c.jump.ensures.value)

pub returns-in-Call-clause-value : goal.returns-in-Call-clause-value
unfolding finished
returns-in-Call-clause-value c =
    rw (c.in-Call.is, c.next_at-in-Call.ensures)
    (next_told _ _ _ (rw c.arguments-arguments.ensures.value at c.call_routine.ensures.value))

pub returns-in-Return-clause-value : goal.returns-in-Return-clause-value
unfolding finished
returns-in-Return-clause-value c =
    rw (c.in-Return.is, c.next_at-in-Return.ensures) (next_told _ _ _ c.return_value.ensures.value)

pub returns-in-Throw-clause-value : goal.returns-in-Throw-clause-value
unfolding finished
returns-in-Throw-clause-value c =
    rw (c.in-Throw.is, c.next_at-in-Throw.ensures) (next_told _ _ _ c.throw_value.ensures.value)
