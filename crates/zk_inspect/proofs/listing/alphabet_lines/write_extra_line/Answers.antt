use Rattle.zk_inspect.specs.AlphabetLines.{extra_line}
use Rattle.zk_inspect.proofs.listing.alphabet_lines.write_extra_line.Goals as goal

pub returns : goal.returns
unfolding extra_line
returns g c = search (g.met.P.LineWriter.twice)
