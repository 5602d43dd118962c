use Rattle.std.proofs.Common.{◌≡◌, ◌<◌, ◌%◌}
use Rattle.std.specs.Prelude.{IfSome}
use Rattle.zk_text.proofs.abbreviations.last_below.Given as goal

abbrev pub invariant-loop-number : goal.invariant-loop-number
invariant-loop-number l = IfSome l.last (λ last. (last < l.address) × (last % 2 ≡ 0))
