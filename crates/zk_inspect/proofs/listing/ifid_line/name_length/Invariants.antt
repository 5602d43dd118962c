use Rattle.std.proofs.Common.{◌≡◌, ◌+◌, drop}
use Rattle.zk_inspect.specs.Ifid.{name_length}
use Rattle.zk_inspect.proofs.listing.ifid_line.name_length.Given as goal

abbrev pub invariant-loop-at : goal.invariant-loop-at
invariant-loop-at l = name_length l.bytes ≡ l.at + name_length (drop l.at l.bytes)
