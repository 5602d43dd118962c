use Rattle.std.proofs.Common.{[], ◌∷◌, append_assoc}
use Rattle.zk_text.specs.Extra.{own_characters}
use Rattle.zk_text.specs.Shown.{shown_all}
use Rattle.zk_step.specs.Routing.{fresh_line}
use Rattle.zk_step.specs.Status.{status_units}
use Rattle.zk_tables.proofs.Units.{was_ok}
use Rattle.zk_step.proofs.Viewing.{on_screen-append}
use Rattle.zk_step.proofs.output.routing.show_status.Goals as goal

pub returns-clause-text : goal.returns-clause-text
returns-clause-text g c =
    let units = was_ok (status_units c.args.game.now.memory) c.requires in
    rw (
      units.1,
      append_assoc (fresh_line c.args.game.now.at_line_start)
          (shown_all (own_characters c.args.game.now.memory) units.0) (10 ∷ []),
      on_screen-append,
    )
    (g.met.S.Screen.twice _ _ _ _ _ c.start_line.ensures (c.show_status_line.ensures units.0 units.1))
