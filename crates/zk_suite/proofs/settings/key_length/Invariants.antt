use Rattle.std.specs.List.{prefix_len}
use Rattle.std.proofs.Common.{◌≡◌, ◌+◌, drop}
use Rattle.zk_suite.specs.Scripts.{is_key_byte}
use Rattle.zk_suite.proofs.settings.key_length.Given as goal

abbrev pub invariant-loop-at : goal.invariant-loop-at
invariant-loop-at l = prefix_len is_key_byte l.bytes ≡ l.at + prefix_len is_key_byte (drop l.at l.bytes)
