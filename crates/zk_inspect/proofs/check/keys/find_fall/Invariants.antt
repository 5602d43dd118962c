use Rattle.std.proofs.Common.{ℕ, ◌<◌}
use Rattle.zk_inspect.specs.Keys.{Falls}
use Rattle.zk_inspect.proofs.check.keys.find_fall.Given as goal

abbrev pub invariant-loop-index : goal.invariant-loop-index
invariant-loop-index l = (i : ℕ) → i < l.index → Falls l.memory l.dictionary i → ⊥
