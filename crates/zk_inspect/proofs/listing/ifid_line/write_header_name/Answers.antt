use Rattle.zk_inspect.specs.Ifid.{header_name}
use Rattle.zk_inspect.proofs.listing.ifid_line.write_header_name.Goals as goal

pub returns : goal.returns
unfolding header_name
returns g c =
    g.met.P.LineWriter.twice _ _ _ _ _ (g.met.P.LineWriter.twice _ _ _ _ _
    (g.met.P.LineWriter.twice _ _ _ _ _ (g.met.P.LineWriter.twice _ _ _ _ _ c.write.ensures
    c.write_decimal.ensures) c.write-2.ensures) (rw c.serial_named.ensures at c.write-3.ensures)) c.write_sum.ensures
