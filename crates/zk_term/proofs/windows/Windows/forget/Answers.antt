use Rattle.std.proofs.Common.{refl}
use Rattle.zk_term.specs.Windows.{forgotten}
use Rattle.zk_term.proofs.Grids.{no_cells_of}
use Rattle.zk_term.proofs.windows.Windows.forget.Goals as goal

pub returns : goal.returns
unfolding forgotten
returns c = rw (← c.self.view_is, c.clear.ensures.items, no_cells_of) refl
