use Rattle.zk_inspect.specs.ObjectLines.{label_text}
use Rattle.zk_inspect.proofs.listing.object_lines.write_label.Goals as goal

pub returns : goal.returns
unfolding label_text
returns g c = search (g.met.P.LineWriter.twice)
