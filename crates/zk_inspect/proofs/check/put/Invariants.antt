use Rattle.std.proofs.Common.{◌≡◌, ◌++◌, map, take}
use Rattle.zk_inspect.specs.Findings.{at_address}
use Rattle.zk_inspect.proofs.check.put.Given as goal

abbrev pub invariant-loop-address : goal.invariant-loop-address
invariant-loop-address l =
    l.findings.items ≡ l.initial.findings.items ++ map (at_address l.number) (take l.address-index l.addresses)
