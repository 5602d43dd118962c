use Rattle.zk_inspect.proofs.reach.notes.write_text_note.Goals as goal

pub returns : goal.returns
returns g c = search (g.met.P.LineWriter.twice)
