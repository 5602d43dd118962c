use Rattle.std.proofs.Common.{arith}
use Rattle.zk_inspect.specs.DictionaryLines.{word_of}
use Rattle.zk_inspect.proofs.Numbered.{listed_all, listed_more}
use Rattle.zk_inspect.proofs.listing.dictionary_lines.list_words.Goals as goal

pub loop-index-preserved : goal.loop-index-preserved
loop-index-preserved g c = listed_more g.F.FactWriter.wrote g.met.F.FactWriter.twice _ _ _
    (word_of c.args.dictionary.now) 0 c.args.dictionary.now.entries c.loop-index.index _ (omega arith) (omega arith)
    c.loop-index.invariant c.list_word.ensures

pub returns : goal.returns
returns g c = listed_all g.F.FactWriter.wrote _ _ (word_of c.args.dictionary.now) 0 c.args.dictionary.now.entries
    c.loop-index.index (omega arith) c.loop-index.invariant
