use Rattle.zk_inspect.specs.Notes.{place_note}
use Rattle.zk_inspect.proofs.reach.notes.write_place_note.Goals as goal

pub returns : goal.returns
unfolding place_note
returns g c = search (g.met.P.LineWriter.twice)
