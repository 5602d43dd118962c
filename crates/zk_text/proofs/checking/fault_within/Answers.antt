use Rattle.std.proofs.Common.{◌∙◌, sym}
use Rattle.zk_text.proofs.Abbreviated.{bad_end, good_end, nowhere}
use Rattle.zk_text.proofs.checking.fault_within.Goals as goal

pub returns-in_default-clause-fault : goal.returns-in_default-clause-fault
returns-in_default-clause-fault c = nowhere c.args.memory.now c.args.number (sym c.in_default.ensures.place)

pub returns-in-Some-Ok-clause-fault : goal.returns-in-Some-Ok-clause-fault
returns-in-Some-Ok-clause-fault c = good_end c.args.memory.now c.args.number c.in-Some.address _
    (sym c.in-Some.ensures.place) (sym c.in-Some-Ok.field-0-is ∙ c.in-Some-Ok.ensures.end)

pub returns-in-Some-Err-clause-fault : goal.returns-in-Some-Err-clause-fault
returns-in-Some-Err-clause-fault c = bad_end c.args.memory.now c.args.number c.in-Some.address c.in-Some-Err.fault
    (sym c.in-Some.ensures.place) (sym c.in-Some-Err.field-0-is ∙ c.in-Some-Err.ensures.end)
