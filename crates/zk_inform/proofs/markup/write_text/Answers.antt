use Rattle.std.proofs.Common.{sym}
use Rattle.zk_inspect.proofs.Quotes.{checked_fault}
use Rattle.zk_inform.proofs.Faults.{no_text}
use Rattle.zk_inform.proofs.markup.write_text.Goals as goal

pub returns-in-Err : goal.returns-in-Err
returns-in-Err g c =
    let fault = checked_fault c.args.memory.now c.args.address c.in-Err.field-0 (sym c.in-Err.ensures.value) in
    rw (no_text c.args.memory.now c.args.address c.in-Err.field-0 fault) c.write.ensures
