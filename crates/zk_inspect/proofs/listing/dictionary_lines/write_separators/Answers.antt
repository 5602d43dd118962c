use Rattle.std.proofs.Common.{arith}
use Rattle.zk_inspect.specs.DictionaryLines.{separator_text, separators_text}
use Rattle.zk_inspect.proofs.Numbered.{numbered_all, numbered_more}
use Rattle.zk_inspect.proofs.listing.dictionary_lines.write_separators.Goals as goal

pub loop-index-preserved : goal.loop-index-preserved
loop-index-preserved g c = numbered_more g.P.LineWriter.wrote g.met.P.LineWriter.twice _ _ _
    (separator_text c.args.memory.now c.args.dictionary.now) 0 c.args.dictionary.now.separators c.loop-index.index _
    (omega arith) (omega arith) c.loop-index.invariant c.write_separator.ensures

pub returns : goal.returns
unfolding separators_text
returns g c = numbered_all g.P.LineWriter.wrote _ _ (separator_text c.args.memory.now c.args.dictionary.now) 0
    c.args.dictionary.now.separators c.loop-index.index (omega arith) c.loop-index.invariant
