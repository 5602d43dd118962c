use Rattle.std.proofs.Common.{◌≡◌, ◌∙◌, ◌*◌, ap, arith}
use Rattle.zk_term.specs.declared.windows.Window.TheVariants.{Lower}
use Rattle.zk_term.specs.Grid.{no_cells}
use Rattle.zk_term.specs.Places.{cells_of}
use Rattle.zk_term.specs.Windows.{Windows, cleared, unsplit}
use Rattle.zk_term.proofs.Blanks.{emptied_all}
use Rattle.zk_term.proofs.Grids.{cells_of-all_emptied}
use Rattle.zk_term.proofs.windows.Windows.unsplit.Goals as goal

pub returns : goal.returns
unfolding unsplit cleared
returns c =
    let s = c.self.inside in
    let i = c.self.invariant in
    let new = c.empty_shown.new.cells.items in
    let empty : cells_of new ≡ no_cells = cells_of-all_emptied s.cells.items new
    (emptied_all s.cells.items new 0 (s.height * 255) (omega arith) c.empty_shown.ensures.value i.blank) in
    rw (c.home.ensures, empty) (ap (λ (w : Windows). record (cleared w) { height = 0; selected = Lower })
    (c.self.view_is ∙ c.keep_if_lower.ensures))
