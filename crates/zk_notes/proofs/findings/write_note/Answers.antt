use Rattle.std.proofs.Common.{◌∙◌}
use Rattle.zk_notes.proofs.findings.write_note.Goals as goal

pub returns-in-Finding : goal.returns-in-Finding
returns-in-Finding g c =
    let on = g.met.P.LineWriter.twice in
    let object = rw c.object_of.ensures at c.write_object.ensures in
    let meaning = rw (c.as_bytes.ensures.value ∙ c.meaning.ensures) at c.write-in-Finding.ensures in
    rw c.in-Finding.is (on _ _ _ _ _ (on _ _ _ _ _ c.write.ensures object) meaning)
