use Rattle.std.proofs.Common.{◌≡◌}
use Rattle.zk_save.specs.Unpacking.{AreAlike}
use Rattle.zk_save.proofs.packing.is_alike.Given as goal

abbrev pub invariant-loop-k : goal.invariant-loop-k
invariant-loop-k l = l.turned ≡ 0 → AreAlike l.bytes l.file l.start l.k
