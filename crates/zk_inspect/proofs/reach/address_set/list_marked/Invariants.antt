use Rattle.std.specs.Prelude.{◌<◌}
use Rattle.zk_inspect.specs.Lists.{IsListOf, IsMarked}
use Rattle.zk_inspect.proofs.reach.address_set.list_marked.Given as goal

abbrev pub invariant-loop-i : goal.invariant-loop-i
invariant-loop-i l = IsListOf (λ a. (a < l.i) × IsMarked l.bits a) l.list
