use Rattle.std.proofs.Common.{◌≡◌, ◌≤◌, take, count_by}
use Rattle.std.specs.List.Sorted.{IsNonDecreasing}
use Rattle.zk_notes.specs.Marks.{has_run}
use Rattle.zk_notes.proofs.cover.Coverage.instructions_run.Given as goal

abbrev pub invariant-loop-address : goal.invariant-loop-address
invariant-loop-address l =
    (l.count ≤ l.address-index)
    × (IsNonDecreasing l.self.covered.now → l.count ≡ count_by (has_run l.self.covered.now)
    (take l.address-index l.self.instructions.now))
