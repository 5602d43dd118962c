use Rattle.std.proofs.Common.{◌≡◌, ◌%◌, take, sum}
use Rattle.zk_mem.proofs.checksum.sum_bytes.Given as goal

abbrev pub invariant-loop-byte : goal.invariant-loop-byte
invariant-loop-byte l = l.total ≡ sum (take l.byte-index l.bytes) % 65536
