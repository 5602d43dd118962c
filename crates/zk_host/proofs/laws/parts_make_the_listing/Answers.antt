use Rattle.zk_host.proofs.Listings.{parts_whole}
use Rattle.zk_host.proofs.laws.parts_make_the_listing.Goals as goal

pub returns : goal.returns
returns c = parts_whole
