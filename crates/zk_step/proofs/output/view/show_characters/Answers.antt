use Rattle.std.proofs.Common.{ℕ, arith, get_or, length, map, sym}
use Rattle.std.proofs.lemmas.List.{get_or-map, length-map}
use Rattle.zk_term.specs.declared.windows.Cell.{Cell}
use Rattle.zk_term.specs.Styles.{roman}
use Rattle.zk_term.specs.Windows.{character_of}
use Rattle.zk_step.proofs.Viewing.{next_on_screen}
use Rattle.zk_step.proofs.output.view.show_characters.Goals as goal

pub loop-cell-preserved : goal.loop-cell-preserved
loop-cell-preserved g c =
    let cells = c.args.cells.now in
    let i = c.loop-cell.cell-index in
    let any : Cell = record { character = 0; style = roman } in
    let d : ℕ = character_of (get_or cells i any) in
    next_on_screen g.S.Screen.shows g.met.S.Screen.twice _ _ _ (map character_of cells) i d
    (omega (arith, length-map cells character_of, c.loop-cell-test.true))
    (sym (get_or-map character_of cells i any d c.loop-cell-test.true)) c.loop-cell.invariant
    (rw c.roman.ensures at c.text.ensures)
