use Rattle.std.proofs.Common.{◌≡◌, drop}
use Rattle.zk_inspect.specs.Ifid.{first_name}
use Rattle.zk_inspect.proofs.listing.ifid_line.first_name.Given as goal

abbrev pub invariant-loop-at : goal.invariant-loop-at
invariant-loop-at l = first_name l.file ≡ first_name (drop l.at l.file)
