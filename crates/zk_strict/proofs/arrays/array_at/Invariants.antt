use Rattle.std.proofs.Common.{◌≡◌, drop}
use Rattle.zk_strict.specs.Arrays.{array_from}
use Rattle.zk_strict.proofs.arrays.array_at.Given as goal

-- the arrays up to here do not have the address
abbrev pub invariant-loop-number : goal.invariant-loop-number
invariant-loop-number l =
    array_from 0 l.arrays l.address ≡ array_from l.number (drop l.number l.arrays) l.address
