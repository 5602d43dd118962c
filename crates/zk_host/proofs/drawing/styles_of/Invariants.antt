use Rattle.std.proofs.Common.{◌≡◌, map, take}
use Rattle.zk_host.specs.Drawing.{cell_mark}
use Rattle.zk_host.proofs.drawing.styles_of.Given as goal

abbrev pub invariant-loop-cell : goal.invariant-loop-cell
invariant-loop-cell l = l.styles.items ≡ map cell_mark (take l.cell-index l.cells)
