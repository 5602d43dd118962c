use Rattle.std.proofs.Common.{◌≡◌, ◌++◌, drop}
use Rattle.zk_coverage.specs.Coverage.{AreInOrder}
use Rattle.zk_coverage.specs.Reports.{address_lines}
use Rattle.zk_coverage.proofs.summary.push_addresses.Given as goal

-- what is left of the routines, added from here, makes the whole
abbrev pub invariant-loop-index : goal.invariant-loop-index
invariant-loop-index l =
    AreInOrder l.ran → l.out.items ++ address_lines l.ran (drop l.index l.ran.routines.now)
    ≡ l.fn.out.items ++ address_lines l.ran l.ran.routines.now
