use Rattle.std.proofs.Common.{◌≡◌, ℕ, ◌+◌, ◌<◌, ◌≤◌, count_by, get_or}
use Rattle.zk_notes.specs.Counts.{capped, is_of}
use Rattle.zk_notes.proofs.counts.add_counts.Given as goal

abbrev pub invariant-loop-at : goal.invariant-loop-at
invariant-loop-at l =
    ((k : ℕ) → k < l.at → get_or l.kinds k 0 ≡ capped (get_or l.initial.kinds k 0 + count_by (is_of (k + 1)) l.facts))
    × ((k : ℕ) → l.at ≤ k → get_or l.kinds k 0 ≡ get_or l.initial.kinds k 0)
