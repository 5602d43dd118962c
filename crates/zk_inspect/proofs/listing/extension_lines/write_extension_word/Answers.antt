use Rattle.zk_inspect.specs.ExtensionLines.{extension_line}
use Rattle.zk_inspect.proofs.listing.extension_lines.write_extension_word.Goals as goal

pub returns : goal.returns
unfolding extension_line
returns g c = search (g.met.P.LineWriter.twice)
