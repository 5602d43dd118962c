use Rattle.zk_inspect.specs.Notes.{noted_line}
use Rattle.zk_inspect.proofs.reach.disassembly.write_noted_line.Goals as goal

pub returns : goal.returns
unfolding noted_line
returns g c = search (g.met.P.LineWriter.twice)
