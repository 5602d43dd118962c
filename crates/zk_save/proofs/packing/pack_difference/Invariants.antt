use Rattle.std.proofs.Common.{◌≡◌, ◌≤◌, ◌*◌, ◌++◌, drop}
use Rattle.zk_save.specs.Packing.{packed}
use Rattle.zk_save.specs.Unpacking.{xored}
use Rattle.zk_save.specs.Counted.{packed_after}
use Rattle.zk_save.proofs.packing.pack_difference.Given as goal

-- what is out, and what the rest gives after the zeros that wait, are the whole
abbrev pub invariant-loop-block : goal.invariant-loop-block
invariant-loop-block l = record {
  whole : l.out.items ++ packed_after l.zeros (drop (l.block * 64) (xored l.bytes l.file)) ≡ packed
      (xored l.bytes l.file);
  few : l.zeros ≤ l.block * 64;
}
