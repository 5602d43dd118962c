use Rattle.std.proofs.Common.{◌≡◌, ◌≤◌, ◌++◌, drop}
use Rattle.zk_save.specs.Packing.{packed}
use Rattle.zk_save.specs.Counted.{packed_after}
use Rattle.zk_save.proofs.packing.pack.Given as goal

-- what is out, and what the rest gives after the zeros that wait, are the whole
abbrev pub invariant-loop-byte : goal.invariant-loop-byte
invariant-loop-byte l = record {
  whole : l.out.items ++ packed_after l.zeros (drop l.byte-index l.bytes) ≡ packed l.bytes;
  few : l.zeros ≤ l.byte-index;
}
