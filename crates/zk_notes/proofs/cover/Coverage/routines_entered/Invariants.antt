use Rattle.std.proofs.Common.{◌≡◌, ◌≤◌, take, count_by}
use Rattle.std.specs.List.Sorted.{IsNonDecreasing}
use Rattle.zk_notes.specs.Marks.{was_entered}
use Rattle.zk_notes.proofs.cover.Coverage.routines_entered.Given as goal

abbrev pub invariant-loop-address : goal.invariant-loop-address
invariant-loop-address l =
    (l.count ≤ l.address-index)
    × (IsNonDecreasing l.self.covered.now → l.count ≡ count_by
    (was_entered l.self.covered.now l.self.instructions.now l.self.routines.now)
    (take l.address-index l.self.routines.now))
