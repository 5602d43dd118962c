use Rattle.std.proofs.Common.{◌≡◌, ◌≤◌, count_by, take}
use Rattle.std.specs.Str.{bytes_eq}
use Rattle.zk_coverage.proofs.lcov.count_named.Given as goal

abbrev pub invariant-loop-routine : goal.invariant-loop-routine
invariant-loop-routine l =
    (l.count ≤ l.routine-index)
    × (l.count ≡ count_by (λ r. bytes_eq r.name.now l.name) (take l.routine-index l.routines))
