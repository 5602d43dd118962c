use Rattle.zk_inspect.specs.ObjectLines.{object_line}
use Rattle.zk_inspect.proofs.listing.object_lines.write_object.Goals as goal

pub returns : goal.returns
unfolding object_line
returns g c =
    let on = g.met.P.LineWriter.twice in
    let attributes = on _ _ _ _ _ c.write.ensures c.write_attributes.ensures in
    let properties = on _ _ _ _ _ c.write-2.ensures c.write_properties.ensures in
    on _ _ _ _ _ (on _ _ _ _ _ (on _ _ _ _ _ c.write_label.ensures c.write_links.ensures) attributes) properties
