use Rattle.std.proofs.Common.{◌≡◌, length, take}
use Rattle.zk_state.proofs.records.copy_records.Given as goal

abbrev pub invariant-loop-k : goal.invariant-loop-k
invariant-loop-k l = record {
  front : take l.k l.all.items ≡ take l.k l.from;
  len : length l.all.items ≡ length l.fn.all.items;
}
