use Rattle.std.proofs.Common.{◌≡◌, length, take}
use Rattle.zk_inspect.proofs.Lying.{AlsoPrinted}
use Rattle.zk_inspect.proofs.texts.mark_all_printed.Given as goal

abbrev pub invariant-loop-address : goal.invariant-loop-address
invariant-loop-address l = record {
  size : length l.marks ≡ length l.fn.marks;
  exact : AlsoPrinted l.memory (take l.address-index l.code) l.fn.marks l.marks;
}
