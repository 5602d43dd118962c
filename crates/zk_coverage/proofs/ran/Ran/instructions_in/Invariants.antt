use Rattle.std.proofs.Common.{◌≡◌, ◌≤◌, take, count_by}
use Rattle.zk_coverage.specs.Coverage.{AreInOrder, has_run}
use Rattle.zk_coverage.proofs.ran.Ran.instructions_in.Given as goal

abbrev pub invariant-loop-address : goal.invariant-loop-address
invariant-loop-address l =
    (l.ran ≤ l.address-index)
    × (AreInOrder l.self → l.ran ≡ count_by (has_run l.self.covered.now) (take l.address-index l.instructions))
