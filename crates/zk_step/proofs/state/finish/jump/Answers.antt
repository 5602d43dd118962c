use Rattle.zk_step.proofs.state.finish.jump.Goals as goal

pub returns-clause-value : goal.returns-clause-value
returns-clause-value c =
    rw (c.continuation_of-continuation.ensures, c.jump_target.ensures, c.len.ensures.value) at c.lead.ensures.value
