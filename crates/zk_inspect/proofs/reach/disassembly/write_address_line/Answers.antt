use Rattle.zk_inspect.specs.Listing.{address_line}
use Rattle.zk_inspect.proofs.reach.disassembly.write_address_line.Goals as goal

pub returns : goal.returns
unfolding address_line
returns g c = search (g.met.P.LineWriter.twice)
