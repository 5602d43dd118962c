use Rattle.zk_inspect.specs.AlphabetLines.{alphabet_line}
use Rattle.zk_inspect.proofs.listing.alphabet_lines.write_alphabet.Goals as goal

pub returns : goal.returns
unfolding alphabet_line
returns g c = search (g.met.P.LineWriter.twice)
