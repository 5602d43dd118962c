use Rattle.std.proofs.Common.{arith}
use Rattle.zk_inspect.specs.declared.fact.Fact.TheVariants as fact
use Rattle.zk_inspect.proofs.Numbered.{listed_all, listed_more}
use Rattle.zk_inspect.proofs.listing.extension_lines.list_words.Goals as goal

pub loop-before-preserved : goal.loop-before-preserved
loop-before-preserved g c = listed_more g.F.FactWriter.wrote g.met.F.FactWriter.twice _ _ _ fact.ExtensionWord 1
    c.args.count c.loop-before.before _ (omega arith) (omega arith) c.loop-before.invariant c.write.ensures

pub returns : goal.returns
returns g c = listed_all g.F.FactWriter.wrote _ _ fact.ExtensionWord 1 c.args.count c.loop-before.before
    (omega arith) c.loop-before.invariant
