use Rattle.std.proofs.Common.{◌≡◌, ◌<◌, length}
use Rattle.zk_inspect.specs.TreeLines.{AreRows, IsUpTo}
use Rattle.zk_inspect.specs.Facts.{GaveSome}
use Rattle.zk_inspect.proofs.listing.tree_lines.Walk.list_below.Given as goal

abbrev pub invariant-loop-turn : goal.invariant-loop-turn
invariant-loop-turn g l = record {
  room : l.self.count < length l.self.listed;
  count : l.self.count ≡ l.fn.self.count;
  rows : GaveSome (AreRows (IsUpTo l.fn.self.count) (λ o. ⊥)) g.F.FactWriter.wrote l.fn.facts l.facts;
  top : IsUpTo l.fn.self.count l.root → GaveSome (AreRows (IsUpTo l.fn.self.count) (λ o. o ≡ l.root))
      g.F.FactWriter.wrote l.fn.facts l.facts;
}
