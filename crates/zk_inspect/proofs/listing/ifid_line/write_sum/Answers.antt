use Rattle.std.proofs.Common.{sym, ◌∙◌}
use Rattle.zk_inspect.proofs.listing.ifid_line.write_sum.Goals as goal

pub returns-then-names_sum : goal.returns-then-names_sum
returns-then-names_sum g c =
    rw (sym c.names_sum.ensures ∙ c.if-names_sum.true) (g.met.P.LineWriter.twice _ _ _ _ _ c.write.ensures
    c.write_capitals.ensures)
