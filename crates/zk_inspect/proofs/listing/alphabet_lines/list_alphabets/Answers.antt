use Rattle.zk_inspect.proofs.listing.alphabet_lines.list_alphabets.Goals as goal

pub returns : goal.returns
returns g c =
    let on = g.met.F.FactWriter.twice in
    on _ _ _ _ _ (on _ _ _ _ _ (on _ _ _ _ _ c.write.ensures c.write-2.ensures) c.write-3.ensures) c.write-4.ensures
