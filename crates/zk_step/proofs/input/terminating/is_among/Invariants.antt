use Rattle.std.proofs.Common.{◌≡◌, drop}
use Rattle.zk_step.specs.Terminating.{is_among}
use Rattle.zk_step.proofs.input.terminating.is_among.Given as goal

abbrev pub invariant-loop-byte : goal.invariant-loop-byte
invariant-loop-byte l = record {
  so_far : is_among l.key l.bytes ≡ is_among l.key (drop l.byte-index l.bytes);
}
