use Rattle.std.specs.List.{suffix_len}
use Rattle.std.proofs.Common.{◌≡◌, ◌≤◌, ◌+◌, length, take}
use Rattle.zk_suite.specs.Scripts.{is_space}
use Rattle.zk_suite.proofs.settings.without_back.Given as goal

abbrev pub invariant-loop-at : goal.invariant-loop-at
invariant-loop-at l = record {
  counted : suffix_len is_space l.bytes + l.at ≡ length l.bytes + suffix_len is_space (take l.at l.bytes);
  within : l.at ≤ length l.bytes;
}
