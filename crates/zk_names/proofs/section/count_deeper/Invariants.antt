use Rattle.std.proofs.Common.{◌≡◌, ◌+◌, drop}
use Rattle.std.specs.List.{prefix_len}
use Rattle.std.specs.Prelude.{nat_lt}
use Rattle.zk_names.proofs.section.count_deeper.Given as goal

abbrev pub invariant-loop-at : goal.invariant-loop-at
invariant-loop-at l =
    prefix_len (λ e. nat_lt l.depth e.depth) l.elements
    ≡ l.at + prefix_len (λ e. nat_lt l.depth e.depth) (drop l.at l.elements)
