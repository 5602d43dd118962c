use Rattle.std.proofs.Common.{◌^◌}
use Rattle.zk_inspect.specs.Siblings.{IsAhead}
use Rattle.zk_inspect.proofs.check.siblings.list_far_siblings.Given as goal

abbrev pub invariant-loop-turn : goal.invariant-loop-turn
invariant-loop-turn l = IsAhead l.memory (2 ^ l._turn) l.list.items
