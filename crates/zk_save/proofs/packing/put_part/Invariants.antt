use Rattle.std.proofs.Common.{◌≡◌, ◌≤◌, ◌++◌, drop}
use Rattle.zk_save.specs.Unpacking.{xored}
use Rattle.zk_save.specs.Counted.{packed_after}
use Rattle.zk_save.proofs.packing.put_part.Given as goal

abbrev pub invariant-loop-i : goal.invariant-loop-i
invariant-loop-i l = record {
  whole : l.out.items ++ packed_after l.zeros (drop l.i (xored l.bytes l.file)) ≡ l.fn.out.items
      ++ packed_after l.fn.zeros (drop l.start (xored l.bytes l.file));
  few : l.zeros ≤ l.i;
}
