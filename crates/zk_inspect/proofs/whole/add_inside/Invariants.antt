use Rattle.std.proofs.Common.{◌≡◌, ◌++◌, [], ◌∷◌, length, nat_lt, take, if◌then◌else◌}
use Rattle.std.specs.List.{flat_map}
use Rattle.zk_inspect.proofs.whole.add_inside.Given as goal

abbrev pub invariant-loop-address : goal.invariant-loop-address
invariant-loop-address l =
    l.roots ≡ l.fn.roots ++ flat_map (λ a. if nat_lt a (length l.memory.bytes) then a ∷ [] else [])
    (take l.address-index l.addresses)
