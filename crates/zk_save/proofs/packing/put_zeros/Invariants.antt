use Rattle.std.proofs.Common.{◌≡◌, ◌++◌}
use Rattle.zk_save.specs.Packing.{pairs}
use Rattle.zk_save.proofs.packing.put_zeros.Given as goal

abbrev pub invariant-loop-i : goal.invariant-loop-i
invariant-loop-i l = l.out.items ≡ l.fn.out.items ++ pairs l._i
