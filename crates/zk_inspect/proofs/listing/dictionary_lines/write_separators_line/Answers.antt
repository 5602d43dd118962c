use Rattle.zk_inspect.specs.DictionaryLines.{separators_line}
use Rattle.zk_inspect.proofs.listing.dictionary_lines.write_separators_line.Goals as goal

pub returns : goal.returns
unfolding separators_line
returns g c = search (g.met.P.LineWriter.twice)
