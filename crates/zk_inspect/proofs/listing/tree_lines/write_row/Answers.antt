use Rattle.zk_inspect.specs.TreeLines.{row_line}
use Rattle.zk_inspect.proofs.listing.tree_lines.write_row.Goals as goal

pub returns : goal.returns
unfolding row_line
returns g c = search (g.met.P.LineWriter.twice)
