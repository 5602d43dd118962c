use Rattle.zk_inform.specs.Documents.{element}
use Rattle.zk_inform.proofs.document.write_element.Goals as goal

pub returns : goal.returns
unfolding element
returns g c =
    let on = g.met.P.LineWriter.twice in
    on _ _ _ _ _ (on _ _ _ _ _ (on _ _ _ _ _ c.write_start.ensures c.write_text.ensures) c.write_decimal.ensures)
    c.write_end.ensures
