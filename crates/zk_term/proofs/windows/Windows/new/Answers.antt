use Rattle.std.proofs.Common.{refl}
use Rattle.zk_term.specs.Windows.{first_windows}
use Rattle.zk_term.proofs.Grids.{no_cells_of}
use Rattle.zk_term.proofs.windows.Windows.new.Goals as goal

pub returns : goal.returns
unfolding first_windows
returns c = rw (c.in_ok-cells.ensures.items, c.in_ok-gone.ensures.items, no_cells_of, c.roman.ensures) refl
