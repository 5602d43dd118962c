use Rattle.zk_inspect.proofs.Plain.{plain_text, faulty_text}
use Rattle.zk_inspect.proofs.listing.abbreviation_lines.write_text.Goals as goal

pub write_meaning-requires : goal.write_meaning-requires
write_meaning-requires g c =
    rw (plain_text c.args.memory.now c.args.address c.in-Ok.ensures.meaning) c.in-Ok.ensures.meaning

pub returns-in-Ok : goal.returns-in-Ok
returns-in-Ok g c = rw (plain_text c.args.memory.now c.args.address c.in-Ok.ensures.meaning) at c.write_meaning.ensures

pub returns-in-Err : goal.returns-in-Err
returns-in-Err g c = rw (faulty_text c.args.memory.now _ c.in-Err.fault c.in-Err.ensures.meaning) c.write_fault.ensures
