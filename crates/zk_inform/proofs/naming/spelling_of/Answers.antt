use Rattle.std.proofs.Common.{sym}
use Rattle.zk_inspect.proofs.Quotes.{checked_fault}
use Rattle.zk_inform.proofs.Faults.{no_spelling}
use Rattle.zk_inform.proofs.naming.spelling_of.Goals as goal

pub returns-in-Err : goal.returns-in-Err
returns-in-Err c = no_spelling c.args.memory.now c.args.address c.in-Err.field-0
    (checked_fault c.args.memory.now c.args.address c.in-Err.field-0 (sym c.in-Err.ensures.value))
