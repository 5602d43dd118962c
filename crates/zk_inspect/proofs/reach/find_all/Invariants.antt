use Rattle.zk_inspect.specs.Search.{IsOnItsWay}
use Rattle.std.proofs.Common.{◌≡◌, ◌+◌, length, max}
use Rattle.zk_inspect.proofs.reach.find_all.Given as goal

abbrev pub invariant-loop-index : goal.invariant-loop-index
invariant-loop-index l = record {
  search : IsOnItsWay l.memory l.roots l.search l.index;
  size : length l.search.marks ≡ max (length l.memory.bytes) 65535 + 1;
  routine_size : length l.search.routines ≡ max (length l.memory.bytes) 65535 + 1;
}
