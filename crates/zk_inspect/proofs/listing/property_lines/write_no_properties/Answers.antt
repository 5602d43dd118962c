use Rattle.zk_inspect.specs.PropertyBytes.{no_properties_line}
use Rattle.zk_inspect.proofs.listing.property_lines.write_no_properties.Goals as goal

pub returns : goal.returns
unfolding no_properties_line
returns g c = search (g.met.P.LineWriter.twice)
