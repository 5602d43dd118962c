use Rattle.std.proofs.Common.{◌≡◌, ◌∷◌, [], ◌++◌, length, take}
use Rattle.std.specs.List.{flat_map}
use Rattle.zk_snapshot.specs.Snapshots.{cell_bytes}
use Rattle.zk_snapshot.proofs.writing.put_row.Given as goal

abbrev pub invariant-loop-cell : goal.invariant-loop-cell
invariant-loop-cell l =
    l.out.items ≡ l.fn.out.items ++ length l.cells ∷ [] ++ flat_map cell_bytes (take l.cell-index l.cells)
