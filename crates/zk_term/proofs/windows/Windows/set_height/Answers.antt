use Rattle.std.proofs.Common.{◌≡◌, ◌*◌, arith, refl}
use Rattle.zk_term.specs.Grid.{emptied}
use Rattle.zk_term.specs.Places.{cells_of}
use Rattle.zk_term.specs.Windows.{past}
use Rattle.zk_term.proofs.Blanks.{emptied_all}
use Rattle.zk_term.proofs.Grids.{cells_of-emptied, cells_of-same, past_all, past_some}
use Rattle.zk_term.proofs.windows.Windows.set_height.Goals as goal
use Rattle.zk_term.proofs.windows.Windows.set_height.Goals.{then-version-eq3, else-version-eq3}

pub returns : goal.returns
returns c =
    let s = c.self.inside in
    let from = c.if-version-eq3.from in
    let left = c.empty.new.cells.items in
    let all = emptied_all s.cells.items left from (s.height * 255) (omega arith) c.empty.ensures.value
    c.self.invariant.blank in
    let grid : cells_of left ≡ emptied (past c.args.version c.args.height) (cells_of s.cells.items) =
    cells_of-emptied s.cells.items left from 65025 (past c.args.version c.args.height) all
    (λ r q place. elim c.if-version-eq3.branch [
      | then-version-eq3 w ↦ past_all c.args.version c.args.height from r q w.if-version-eq3.true w.from-is place
      | else-version-eq3 w ↦ past_some c.args.version c.args.height from r q w.if-version-eq3.false w.from-is place
    ]) in
    rw (← c.self.view_is, cells_of-same left c.fill_up.new.cells.items c.fill_up.ensures.same, grid) refl
