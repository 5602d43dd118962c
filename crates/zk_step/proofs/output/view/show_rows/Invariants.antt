use Rattle.zk_step.specs.Routing.{on_screen}
use Rattle.zk_step.specs.View.{rows_shown}
use Rattle.zk_step.proofs.output.view.show_rows.Given as goal

abbrev pub invariant-loop-row : goal.invariant-loop-row
invariant-loop-row g l = g.S.Screen.shows l.fn.screen l.screen (on_screen (rows_shown l.windows 1 l.row))
