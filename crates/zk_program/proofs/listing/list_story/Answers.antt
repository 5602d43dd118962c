use Rattle.std.proofs.Common.{sym}
use Rattle.zk_mem.specs.Fresh.{plain_setup}
use Rattle.zk_program.proofs.Listings.{listed}
use Rattle.zk_program.proofs.Verdicts.{starts}
use Rattle.zk_program.proofs.listing.list_story.Goals as goal

pub list_text-requires : goal.list_text-requires
list_text-requires g c =
    starts c.in-Ok-start.memory c.args.story (plain_setup 16) (rw c.plain.ensures at c.in-Ok-start.ensures)
    c.requires

pub returns-in-Ok-start : goal.returns-in-Ok-start
returns-in-Ok-start g c =
    rw (c.exit_after.ensures, sym (rw c.plain.ensures at c.in-Ok-start.ensures))
    (listed c.args.listing c.in-Ok-start.memory _ c.list_text.result _ _ _ c.in-Ok.ensures.failed
    c.in-Ok.ensures.text c.list_text.ensures.tells c.list_text.ensures.written)
