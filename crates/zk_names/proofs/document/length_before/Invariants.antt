use Rattle.std.proofs.Common.{◌≡◌, ◌+◌, drop}
use Rattle.zk_names.specs.Documents.{length_before}
use Rattle.zk_names.proofs.document.length_before.Given as goal

abbrev pub invariant-loop-at : goal.invariant-loop-at
invariant-loop-at l = length_before l.stop l.bytes ≡ l.at + length_before l.stop (drop l.at l.bytes)
