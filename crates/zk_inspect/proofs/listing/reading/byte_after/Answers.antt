use Rattle.std.proofs.Common.{◌+◌, arith, sym}
use Rattle.zk_inspect.proofs.Past.{no_cell}
use Rattle.zk_inspect.proofs.listing.reading.byte_after.Goals as goal

pub returns-in-None : goal.returns-in-None
returns-in-None c =
    sym (no_cell c.args.memory.now (c.args.address + c.args.offset)
    (omega (arith, c.len.ensures.value, c.len.ensures.bound, c.in-None.ensures)))
