use Rattle.std.proofs.Common.{◌≡◌, ◌<◌, [], refl, rules}
use Rattle.zk_step.specs.Routing.{fresh_line}
use Rattle.zk_step.specs.View.{rows_shown, lines_shown}
use Rattle.zk_step.proofs.Viewing.{on_screen-append, some_lines, some_rows}
use Rattle.zk_step.proofs.output.view.show_rows_alone.Goals as goal

pub returns-then-height-eq0-clause-state : goal.returns-then-height-eq0-clause-state
unfolding lines_shown rows_shown
returns-then-height-eq0-clause-state g c =
    let none : c.args.game.now.windows.height ≡ 0 = search rules in
    rw (c.requires, none) refl

pub returns-then-height-eq0-clause-text : goal.returns-then-height-eq0-clause-text
unfolding lines_shown rows_shown
returns-then-height-eq0-clause-text g c =
    let none : c.args.game.now.windows.height ≡ 0 = search rules in
    rw (c.requires, none) (g.met.S.Screen.nothing _)

pub returns-clause-state : goal.returns-clause-state
returns-clause-state g c =
    let w = c.args.game.now in
    let some : 0 < w.windows.height = search rules in
    rw (
      c.requires,
      some_lines w (rows_shown w.windows 1 w.windows.height)
          (some_rows w.windows w.windows.height 1 some),
    ) refl

pub returns-clause-text : goal.returns-clause-text
returns-clause-text g c =
    let w = c.args.game.now in
    let some : 0 < w.windows.height = search rules in
    rw (
      c.requires,
      some_lines w (rows_shown w.windows 1 w.windows.height)
          (some_rows w.windows w.windows.height 1 some),
      on_screen-append (fresh_line w.at_line_start) (rows_shown w.windows 1 w.windows.height),
    ) (g.met.S.Screen.twice _ _ _ _ _ c.start_line.ensures c.show_rows.ensures)
