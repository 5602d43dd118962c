use Rattle.zk_inspect.specs.HeaderLines.{header_facts}
use Rattle.zk_inspect.proofs.listing.header_lines.list_header.Goals as goal

pub returns : goal.returns
unfolding header_facts
returns g c = search (g.met.F.FactWriter.twice)
