use Rattle.zk_inspect.specs.AbbreviationLines.{abbreviation_line}
use Rattle.zk_inspect.proofs.listing.abbreviation_lines.write_abbreviation.Goals as goal

pub returns : goal.returns
unfolding abbreviation_line
returns g c = search (g.met.P.LineWriter.twice)
