use Rattle.std.proofs.Common.{◌∙◌}
use Rattle.zk_inspect.specs.HeaderLines.{field_line}
use Rattle.zk_inspect.proofs.listing.header_lines.write_field.Goals as goal

pub returns : goal.returns
unfolding field_line
returns g c =
    let on = g.met.P.LineWriter.twice in
    on _ _ _ _ _ (on _ _ _ _ _ (rw (c.as_bytes.ensures.value ∙ c.name.ensures) at c.write.ensures)
    c.write-2.ensures) (rw c.value_of.ensures at c.write_value.ensures)
