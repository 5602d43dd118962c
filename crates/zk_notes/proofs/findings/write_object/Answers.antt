use Rattle.zk_notes.proofs.findings.write_object.Goals as goal

pub returns-in-Some : goal.returns-in-Some
returns-in-Some g c = rw c.in-Some.is (search (g.met.P.LineWriter.twice))
