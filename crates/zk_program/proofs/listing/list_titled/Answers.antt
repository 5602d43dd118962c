use Rattle.zk_program.proofs.Listings.{titled}
use Rattle.zk_program.proofs.listing.list_titled.Goals as goal

pub returns : goal.returns
returns g c =
    titled g.F.FactWriter.wrote g.met.F.FactWriter.twice c.args.section
    c.args.memory.now _ _ _ _ _ c.write.ensures c.list_section.ensures
