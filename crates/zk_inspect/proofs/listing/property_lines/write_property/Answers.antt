use Rattle.zk_inspect.specs.PropertyBytes.{property_line}
use Rattle.zk_inspect.proofs.listing.property_lines.write_property.Goals as goal

pub returns : goal.returns
unfolding property_line
returns g c = search (g.met.P.LineWriter.twice) depth 9
