use Rattle.std.proofs.Common.{◌≡◌, ◌*◌, arith, refl}
use Rattle.zk_term.specs.Grid.{no_cells}
use Rattle.zk_term.specs.Places.{cells_of}
use Rattle.zk_term.specs.Windows.{cleared}
use Rattle.zk_term.proofs.Blanks.{emptied_all}
use Rattle.zk_term.proofs.Grids.{cells_of-all_emptied}
use Rattle.zk_term.proofs.windows.Windows.clear.Goals as goal

pub returns : goal.returns
unfolding cleared
returns c =
    let s = c.self.inside in
    let i = c.self.invariant in
    let new = c.empty_shown.new.cells.items in
    let empty : cells_of new ≡ no_cells = cells_of-all_emptied s.cells.items new
    (emptied_all s.cells.items new 0 (s.height * 255) (omega arith) c.empty_shown.ensures.value i.blank) in
    rw (c.home.ensures, ← c.self.view_is, empty) refl
