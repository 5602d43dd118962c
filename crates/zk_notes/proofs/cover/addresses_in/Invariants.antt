use Rattle.std.proofs.Common.{◌≡◌, false, map}
use Rattle.std.specs.List.{filter_map, list_any}
use Rattle.zk_notes.specs.Union.{address_on, is_foreign}
use Rattle.zk_notes.proofs.cover.addresses_in.Given as goal

abbrev pub invariant-loop-line : goal.invariant-loop-line
invariant-loop-line l =
    (l.addresses.items ≡ filter_map address_on (map (λ x. x.now) l.yielded))
    × (list_any (is_foreign l.story) (map (λ x. x.now) l.yielded) ≡ false)
