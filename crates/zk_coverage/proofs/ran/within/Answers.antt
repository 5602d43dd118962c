use Rattle.std.proofs.Common.{rules, ltb}
use Rattle.std.proofs.lemmas.List.{take_rest}
use Rattle.std.proofs.lemmas.List.Sorted.{IsPartitionPoint-from_clause, IsPartitionedBy-ltb, IsNonDecreasingBy-drop}
use Rattle.std.proofs.lemmas.List.Sorted.{IsNonDecreasingBy-take}
use Rattle.zk_coverage.proofs.Spans.{rest_is}
use Rattle.zk_coverage.proofs.ran.within.Goals as goal

pub returns : goal.returns
returns c = λ up.
    let low = IsPartitionPoint-from_clause (λ y. ltb y c.args.span.low) _ _
    c.partition_point-first.ensures.partitioned (IsPartitionedBy-ltb (λ y. y) _ c.args.span.low up)
    (λ a r q k. search rules) in
    let high = IsPartitionPoint-from_clause (λ y. ltb y c.args.span.high) _ _
    c.partition_point-count.ensures.partitioned (IsPartitionedBy-ltb (λ y. y) _ c.args.span.high
    (IsNonDecreasingBy-take (λ y. y) _ _ (IsNonDecreasingBy-drop (λ y. y) _ _ up)))
    (λ a r q k. search rules) in
    rest_is (λ y. y) c.args.span.low c.args.span.high c.args.addresses.now _ _ _
    (take_rest c.args.addresses.now _) low high
