use Rattle.std.proofs.Common.{◌≡◌, ◌++◌, map, take}
use Rattle.zk_coverage.specs.Reports.{record_byte}
use Rattle.zk_coverage.proofs.lcov.push_name.Given as goal

abbrev pub invariant-loop-byte : goal.invariant-loop-byte
invariant-loop-byte l = l.out.items ≡ l.fn.out.items ++ map record_byte (take l.byte-index l.name)
