use Rattle.std.proofs.Common.{arith}
use Rattle.zk_inspect.specs.AlphabetLines.{extra_text}
use Rattle.zk_inspect.proofs.Numbered.{numbered_all, numbered_more}
use Rattle.zk_inspect.proofs.listing.alphabet_lines.write_all_extra.Goals as goal

pub loop-before-preserved : goal.loop-before-preserved
loop-before-preserved g c = numbered_more g.P.LineWriter.wrote g.met.P.LineWriter.twice _ _ _
    (extra_text c.args.memory.now) 155 97 c.loop-before.before _ (omega arith) (omega arith) c.loop-before.invariant
    c.write_extra.ensures

pub returns : goal.returns
returns g c = numbered_all g.P.LineWriter.wrote _ _ (extra_text c.args.memory.now) 155 97 c.loop-before.before
    (omega arith) c.loop-before.invariant
