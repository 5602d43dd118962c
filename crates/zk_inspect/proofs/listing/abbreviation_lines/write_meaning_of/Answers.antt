use Rattle.std.proofs.Common.{arith}
use Rattle.zk_mem.specs.declared.fault.Fault.TheVariants.{TextPastEnd}
use Rattle.zk_inspect.proofs.Plain.{by_word, faulty_text, without_word}
use Rattle.zk_inspect.proofs.listing.abbreviation_lines.write_meaning_of.Goals as goal

pub returns-in-Ok : goal.returns-in-Ok
returns-in-Ok g c =
    rw (by_word c.args.memory.now c.args.number c.in-Ok.word
    (search (arith, c.word.ensures, c.header.ensures, c.in-Ok.is))) c.write_text.ensures

pub returns-in-Err : goal.returns-in-Err
returns-in-Err g c =
    rw (faulty_text c.args.memory.now _ TextPastEnd (without_word c.args.memory.now c.args.number c.in-Err.field-0
    (search (arith, c.word.ensures, c.header.ensures, c.in-Err.is)))) c.write_fault.ensures
