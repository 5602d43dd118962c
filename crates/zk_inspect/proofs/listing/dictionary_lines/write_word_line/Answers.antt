use Rattle.zk_inspect.specs.DictionaryLines.{word_line}
use Rattle.zk_inspect.proofs.listing.dictionary_lines.write_word_line.Goals as goal

pub returns : goal.returns
unfolding word_line
returns g c = search (g.met.P.LineWriter.twice)
