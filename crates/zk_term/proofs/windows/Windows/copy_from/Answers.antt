use Rattle.std.proofs.Common.{◌≡◌, ◌∙◌, ◌*◌, take, ap, refl, rules}
use Rattle.zk_term.specs.Places.{cells_of}
use Rattle.zk_term.proofs.Blanks.{cells_of-take}
use Rattle.zk_term.proofs.windows.Windows.copy_from.Goals as goal

pub returns : goal.returns
returns c =
    let o = c.other.inside in
    let shown : c.extend_from_slice.new.self.items ≡ take (o.height * 255) o.cells.items = search rules in
    let grid : cells_of c.extend_from_slice.new.self.items ≡ cells_of o.cells.items =
    ap cells_of shown ∙ cells_of-take o.cells.items (o.height * 255) c.other.invariant.blank in
    let gone : c.extend_from_slice-2.new.self.items ≡ o.gone.items = search rules in
    rw (← c.other.view_is, grid, gone) refl
