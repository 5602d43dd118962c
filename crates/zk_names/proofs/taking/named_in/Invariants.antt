use Rattle.std.proofs.Common.{is_some}
use Rattle.zk_names.specs.Said.{SaysThing, thing_kind}
use Rattle.zk_names.proofs.Walks.{Goes}
use Rattle.zk_names.proofs.taking.named_in.Given as goal

abbrev pub invariant-loop-at : goal.invariant-loop-at
invariant-loop-at l = Goes SaysThing (λ e. is_some (thing_kind e)) l.elements l.at l.named.items
