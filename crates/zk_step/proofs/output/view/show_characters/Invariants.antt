use Rattle.std.proofs.Common.{map, take}
use Rattle.zk_term.specs.Windows.{character_of}
use Rattle.zk_step.specs.Routing.{on_screen}
use Rattle.zk_step.proofs.output.view.show_characters.Given as goal

abbrev pub invariant-loop-cell : goal.invariant-loop-cell
invariant-loop-cell g l = g.S.Screen.shows l.fn.screen l.screen
    (on_screen (take l.cell-index (map character_of l.cells)))
