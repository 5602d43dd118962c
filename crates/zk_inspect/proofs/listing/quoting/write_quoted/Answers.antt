use Rattle.std.proofs.Common.{sym}
use Rattle.zk_text.specs.Meaning.{text_units}
use Rattle.zk_inspect.proofs.Quotes.{checked_fault, fault_text}
use Rattle.zk_inspect.proofs.listing.quoting.write_quoted.Goals as goal

pub returns-in-Err : goal.returns-in-Err
returns-in-Err g c =
    let fault = checked_fault c.args.memory.now c.args.address c.in-Err.fault (sym c.in-Err.ensures.value) in
    rw (fault_text c.args.memory.now (text_units c.args.memory.now c.args.address) c.in-Err.fault _ fault
    c.number.ensures) c.write_decimal.ensures
