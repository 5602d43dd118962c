use Rattle.std.proofs.Common.{[], ◌∷◌, ◌++◌}
use Rattle.zk_term.specs.Windows.{row_text}
use Rattle.zk_step.specs.Routing.{on_screen}
use Rattle.zk_step.proofs.Viewing.{on_screen-append}
use Rattle.zk_step.proofs.output.view.show_row.Goals as goal

pub returns : goal.returns
returns g c =
    let twice = g.met.S.Screen.twice in
    let row = row_text c.args.windows.now c.args.row in
    let shown = rw c.row.ensures.value at c.show_characters.ensures in
    let last = twice _ _ _ (on_screen row) _ shown (rw c.roman-3.ensures at c.text-3.ensures) in
    let middle = twice _ _ _ _ _ (rw c.roman-2.ensures at c.text-2.ensures) last in
    rw (on_screen-append row (10 ∷ [])) (twice _ _ _ _ _ (rw c.roman.ensures at c.text.ensures) middle)
