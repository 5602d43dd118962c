use Rattle.std.proofs.Common.{◌≡◌, ◌<◌, ◌%◌, drop}
use Rattle.zk_snapshot.specs.Sums.{sum_from}
use Rattle.zk_snapshot.proofs.sums.sum_of.Given as goal

abbrev pub invariant-loop-byte : goal.invariant-loop-byte
invariant-loop-byte l = record {
  left : sum_from (l.first % 65521) (l.second % 65521) (drop l.byte-index l.bytes) ≡ sum_from 1 0 l.bytes;
  first : l.first < 1099511627776;
  second : l.second < 1099511627776;
}
