use Rattle.zk_notes.specs.Marks.{ran_line}
use Rattle.zk_notes.proofs.cover.write_ran.Goals as goal

pub returns : goal.returns
unfolding ran_line
returns g c = search (g.met.P.LineWriter.twice)
