use Rattle.std.proofs.Common.{◌≡◌, ◌≤◌, length, take}
use Rattle.std.specs.List.{filter, range_with_len}
use Rattle.zk_tables.specs.Attributes.{attribute_at}
use Rattle.zk_inspect.specs.ObjectLines.{is_set}
use Rattle.zk_inspect.proofs.listing.object_lines.attributes_of.Given as goal

abbrev pub invariant-loop-number : goal.invariant-loop-number
invariant-loop-number l = record {
  found : l.attributes.items ≡ filter (λ n. is_set (attribute_at l.memory l.object n))
      (take l.number (range_with_len 0 48));
  few : length l.attributes.items ≤ l.number;
}
