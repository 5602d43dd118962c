use Rattle.std.specs.List.{prefix_len}
use Rattle.std.proofs.Common.{◌≡◌, ◌+◌, drop}
use Rattle.zk_suite.specs.Scripts.{is_space}
use Rattle.zk_suite.proofs.settings.without_front.Given as goal

abbrev pub invariant-loop-at : goal.invariant-loop-at
invariant-loop-at l = prefix_len is_space l.bytes ≡ l.at + prefix_len is_space (drop l.at l.bytes)
