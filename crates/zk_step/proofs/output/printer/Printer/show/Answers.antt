use Rattle.std.proofs.Common.{append-nil}
use Rattle.zk_step.specs.Routing.{character_streamed, streamed_all}
use Rattle.zk_step.proofs.output.printer.Printer.show.Goals as goal

pub returns-clause-shown : goal.returns-clause-shown
unfolding streamed_all
returns-clause-shown g c =
    let second = rw c.show_on_screen.ensures.kept.2 at c.show_in_script.ensures.shown in
    rw (append-nil (character_streamed c.args.self.now.selected c.args.c))
    (g.met.S.Screen.twice _ _ _ _ _ c.show_on_screen.ensures.shown second)
