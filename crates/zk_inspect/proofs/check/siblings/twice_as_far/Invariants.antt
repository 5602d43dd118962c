use Rattle.std.proofs.Common.{◌≡◌, get_or, map, take}
use Rattle.zk_inspect.proofs.check.siblings.twice_as_far.Given as goal

abbrev pub invariant-loop-object : goal.invariant-loop-object
invariant-loop-object l = l.far.items ≡ map (λ o. get_or l.list o 0) (take l.object-index l.list)
