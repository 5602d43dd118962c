use Rattle.zk_inform.specs.Documents.{document_text}
use Rattle.zk_inform.proofs.document.write_document.Goals as goal

pub returns : goal.returns
unfolding document_text
returns g c =
    let on = g.met.P.LineWriter.twice in
    on _ _ _ _ _ (on _ _ _ _ _ (on _ _ _ _ _ c.write_head.ensures c.write_objects.ensures) c.write_table.ensures)
    c.write.ensures
