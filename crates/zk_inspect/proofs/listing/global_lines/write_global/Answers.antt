use Rattle.zk_inspect.specs.GlobalLines.{global_line}
use Rattle.zk_inspect.proofs.listing.global_lines.write_global.Goals as goal

pub returns : goal.returns
unfolding global_line
returns g c = search (g.met.P.LineWriter.twice)
