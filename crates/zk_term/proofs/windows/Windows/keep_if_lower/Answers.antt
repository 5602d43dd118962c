use Rattle.std.proofs.Common.{◌≡◌, ◌∙◌, ◌*◌, take, ap, refl, rules}
use Rattle.std.proofs.lemmas.Bool.{le-leb, lt-ltb}
use Rattle.zk_term.specs.Places.{cells_of}
use Rattle.zk_term.proofs.Blanks.{cells_of-take}
use Rattle.zk_term.proofs.windows.Windows.keep_if_lower.Goals as goal

pub returns-then-self : goal.returns-then-self
returns-then-self c =
    let s = c.self.inside in
    let gone : c.extend_from_slice.new.self.items ≡ take (s.height * 255) s.cells.items = search rules in
    let grid : cells_of c.extend_from_slice.new.self.items ≡ cells_of s.cells.items =
    ap cells_of gone ∙ cells_of-take s.cells.items (s.height * 255) c.self.invariant.blank in
    rw (← c.self.view_is, grid, lt-ltb _ _ c.if-height-self.true, le-leb _ _ c.if-self.true) refl
