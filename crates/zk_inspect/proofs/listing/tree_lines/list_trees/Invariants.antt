use Rattle.std.proofs.Common.{◌≡◌, ◌<◌, length}
use Rattle.zk_inspect.specs.TreeLines.{AreRows, HasNoParent, IsUpTo}
use Rattle.zk_inspect.specs.Facts.{GaveSome}
use Rattle.zk_inspect.proofs.listing.tree_lines.list_trees.Given as goal

abbrev pub invariant-loop-before : goal.invariant-loop-before
invariant-loop-before g l = record {
  room : l.walk.count < length l.walk.listed;
  count : l.walk.count ≡ l.fn.walk.count;
  rows : GaveSome (AreRows (IsUpTo l.fn.walk.count) (λ o. ⊥)) g.F.FactWriter.wrote l.fn.facts l.facts;
  top : GaveSome (AreRows (IsUpTo l.fn.walk.count) (λ o. IsUpTo l.before o × HasNoParent l.memory o))
      g.F.FactWriter.wrote l.fn.facts l.facts;
}
