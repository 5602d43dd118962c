use Rattle.zk_mem.specs.Fresh.{plain_setup}
use Rattle.zk_program.proofs.Verdicts.{starts}
use Rattle.zk_program.proofs.listing.open_listed.Goals as goal

pub returns-in-Ok-start : goal.returns-in-Ok-start
returns-in-Ok-start g c =
    starts c.in-Ok-start.memory c.in-Ok.story (plain_setup 16) (rw c.plain.ensures at c.in-Ok-start.ensures)
    c.in-Ok.ensures.1
