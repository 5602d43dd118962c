use Rattle.std.proofs.Common.{arith}
use Rattle.zk_inspect.specs.declared.fact.Fact.TheVariants as fact
use Rattle.zk_inspect.proofs.Numbered.{listed_all, listed_more}
use Rattle.zk_inspect.proofs.listing.abbreviation_lines.list_all.Goals as goal

pub loop-number-preserved : goal.loop-number-preserved
loop-number-preserved g c = listed_more g.F.FactWriter.wrote g.met.F.FactWriter.twice _ _ _ fact.Abbreviation 0 96
    c.loop-number.number _ (omega arith) (omega arith) c.loop-number.invariant c.write.ensures

pub returns : goal.returns
returns g c = listed_all g.F.FactWriter.wrote _ _ fact.Abbreviation 0 96 c.loop-number.number (omega arith)
    c.loop-number.invariant
