use Rattle.zk_step.proofs.output.routing.fill_table.Goals as goal

pub returns-clause-value : goal.returns-clause-value
returns-clause-value c = c.store_codes.ensures.value _ c.collect.ensures
