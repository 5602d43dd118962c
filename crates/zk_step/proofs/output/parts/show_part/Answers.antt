use Rattle.std.proofs.Common.{◌≡◌, false, refl, rules}
use Rattle.zk_step.specs.Routing.{ends_line}
use Rattle.zk_step.proofs.HalfScreens.{streamed_nowhere}
use Rattle.zk_step.proofs.HalfTexts.{some_all}
use Rattle.zk_step.proofs.output.parts.show_part.Goals as goal

pub returns-then-not-selected-2-clause-text : goal.returns-then-not-selected-2-clause-text
unfolding ends_line
returns-then-not-selected-2-clause-text g c =
    let screen : c.args.selected.screen ≡ false = search (rules, c.if-not-selected.true) in
    let script : c.args.selected.script ≡ false = search (rules, c.if-not-selected-2.true) in
    some_all _ _ _ _ (rw (streamed_nowhere c.args.selected _ screen script, screen) (refl, g.met.S.Screen.nothing _))
