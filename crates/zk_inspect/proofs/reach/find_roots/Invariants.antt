use Rattle.std.proofs.Common.{◌<◌, ℕ, get_or}
use Rattle.zk_inspect.specs.Lists.{IsMarked}
use Rattle.zk_inspect.specs.Search.{IsSearch, Grows}
use Rattle.zk_inspect.proofs.reach.find_roots.Given as goal

abbrev pub invariant-loop-index : goal.invariant-loop-index
invariant-loop-index l = record {
  search : IsSearch l.memory l.roots l.search;
  grows : Grows l.fn.search l.search;
  found : (k : ℕ) → k < l.index → IsMarked l.search.marks (get_or l.roots k 0);
}
