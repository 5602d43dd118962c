use Rattle.std.proofs.Common.{arith, codes, ℕ}
use Rattle.zk_inspect.specs.TreeLines.{indent}
use Rattle.zk_inspect.proofs.Numbered.{numbered_all, numbered_more}
use Rattle.zk_inspect.proofs.listing.tree_lines.write_indent.Goals as goal

pub loop-level-preserved : goal.loop-level-preserved
loop-level-preserved g c = numbered_more g.P.LineWriter.wrote g.met.P.LineWriter.twice _ _ _
    (λ (i : ℕ). codes "  ") 0 c.args.level c.loop-level._level c.loop-level._level (omega arith) (omega arith)
    c.loop-level.invariant c.write.ensures

pub returns : goal.returns
unfolding indent
returns g c = numbered_all g.P.LineWriter.wrote _ _ (λ (i : ℕ). codes "  ") 0 c.args.level c.loop-level._level
    (omega arith) c.loop-level.invariant
