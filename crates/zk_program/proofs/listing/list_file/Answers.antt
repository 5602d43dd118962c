use Rattle.zk_program.proofs.Listings.{left_out, opened}
use Rattle.zk_program.proofs.listing.list_file.Goals as goal

pub returns-in-Err : goal.returns-in-Err
returns-in-Err g c = left_out c.args.listing _ _ _ _ c.in-Err.exit _ c.in-Err.ensures c.leave_out.ensures

pub returns-in-Ok : goal.returns-in-Ok
returns-in-Ok g c =
    opened c.args.listing _ _ _ _ c.in-Ok.story _ c.in-Ok.ensures.0 c.in-Ok.ensures.1 c.list_story.ensures
