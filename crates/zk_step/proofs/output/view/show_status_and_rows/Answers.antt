use Rattle.std.proofs.Common.{[], ◌∷◌, ◌++◌, List, ℕ, refl}
use Rattle.zk_text.specs.Extra.{own_characters}
use Rattle.zk_text.specs.Shown.{shown_all}
use Rattle.zk_step.specs.Routing.{fresh_line}
use Rattle.zk_step.specs.Status.{status_units}
use Rattle.zk_tables.proofs.Units.{was_ok}
use Rattle.zk_step.specs.View.{rows_shown}
use Rattle.zk_step.proofs.Viewing.{on_screen-append, some_lines, ended_line}
use Rattle.zk_step.proofs.output.view.show_status_and_rows.Goals as goal

pub returns-clause-state : goal.returns-clause-state
returns-clause-state g c =
    let w = c.args.game.now in
    let units = was_ok (status_units w.memory) c.requires.ready in
    let status : List ℕ = shown_all (own_characters w.memory) units.0 in
    let rows : List ℕ = rows_shown w.windows 1 w.windows.height in
    rw (c.requires.third, units.1, some_lines w ((status ++ 10 ∷ []) ++ rows) (ended_line status rows)) refl

pub returns-clause-text : goal.returns-clause-text
returns-clause-text g c =
    let w = c.args.game.now in
    let units = was_ok (status_units w.memory) c.requires.ready in
    let status : List ℕ = shown_all (own_characters w.memory) units.0 in
    let rows : List ℕ = rows_shown w.windows 1 w.windows.height in
    let behind = g.met.S.Screen.twice _ _ _ _ _ (c.show_status_line.ensures units.0 units.1) c.show_rows.ensures in
    rw (
      c.requires.third,
      units.1,
      some_lines w ((status ++ 10 ∷ []) ++ rows) (ended_line status rows),
      on_screen-append (fresh_line w.at_line_start) ((status ++ 10 ∷ []) ++ rows),
      on_screen-append (status ++ 10 ∷ []) rows,
    ) (g.met.S.Screen.twice _ _ _ _ _ c.start_line.ensures behind)
