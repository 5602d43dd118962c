use Rattle.zk_text.proofs.Abbreviated.{fault_there_at}
use Rattle.zk_text.proofs.sweep.listed_at.Goals as goal

pub returns-then-has_text_at : goal.returns-then-has_text_at
returns-then-has_text_at c = fault_there_at c.args.memory.now c.loop-number.number c.args.address _
    (c.has_text_at.ensures c.if-has_text_at.true) c.listed_fault.ensures
