use Rattle.zk_inspect.specs.DictionaryLines.{table_facts}
use Rattle.zk_inspect.proofs.listing.dictionary_lines.list_table.Goals as goal

pub returns : goal.returns
unfolding table_facts
returns g c =
    g.met.F.FactWriter.twice _ _ _ _ _ (g.met.F.FactWriter.twice _ _ _ _ _ c.write.ensures c.write-2.ensures)
    c.list_words.ensures
