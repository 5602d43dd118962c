use Rattle.std.proofs.Common.{inr, refl}
use Rattle.zk_program.proofs.Listings.{has_path}
use Rattle.zk_program.proofs.listing.leave_out.Goals as goal

pub returns-in-Err : goal.returns-in-Err
returns-in-Err g c = inr (refl, c.in-Err.ensures.failed, has_path _ _ _ c.in-Err.ensures.alone refl)
