use Rattle.zk_inspect.proofs.Shortening.{by_beginning}
use Rattle.zk_inspect.proofs.listing.shortening.write_shortened.Goals as goal

pub returns : goal.returns
returns g c = λ cs h.
    let on = g.met.P.LineWriter.twice in
    let characters = rw c.shown_of.ensures at c.write_characters.ensures in
    let end = rw c.end_of.ensures at c.write-2.ensures in
    rw (by_beginning c.args.beginning.now cs h) (on _ _ _ _ _ c.write.ensures (on _ _ _ _ _ characters end))
