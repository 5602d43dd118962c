use Rattle.std.specs.List.{starts_with}
use Rattle.std.proofs.Common.{◌≡◌, ℕ, ◌<◌, ◌==◌, false, drop}
use Rattle.zk_suite.proofs.search.contains.Given as goal

abbrev pub invariant-loop-at : goal.invariant-loop-at
invariant-loop-at l = (k : ℕ) → k < l.at → starts_with ◌==◌ (drop k l.bytes) l.text ≡ false
