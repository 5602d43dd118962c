use Rattle.std.proofs.Common.{◌≡◌, ap, Bool, false, refl, rules}
use Rattle.zk_step.specs.Printing.{characters_of}
use Rattle.zk_step.specs.Routing.{ends_line, selected_in, with_line_start}
use Rattle.zk_step.specs.declared.output.printer.Selected.{Selected}
use Rattle.zk_step.proofs.HalfScreens.{streamed_nowhere}
use Rattle.zk_step.proofs.output.routing.show_text.Goals as goal

pub returns-then-not-on-2-clause-state : goal.returns-then-not-on-2-clause-state
unfolding ends_line
returns-then-not-on-2-clause-state g c =
    let screen : c.selected-on.result.screen ≡ false = search (rules, c.if-not-on.true) in
    let off : c.args.game.now.streams.screen ≡ false = rw c.selected-on.ensures at screen in
    rw off refl

pub returns-then-not-on-2-clause-text : goal.returns-then-not-on-2-clause-text
returns-then-not-on-2-clause-text g c =
    let on : Selected = selected_in c.args.game.now.memory c.args.game.now in
    let screen : c.selected-on.result.screen ≡ false = search (rules, c.if-not-on.true) in
    let script : c.selected-on.result.script ≡ false = search (rules, c.if-not-on-2.true) in
    rw (streamed_nowhere on _ (rw c.selected-on.ensures at screen) (rw c.selected-on.ensures at script))
    (g.met.S.Screen.nothing _)

pub returns-clause-state : goal.returns-clause-state
unfolding characters_of
returns-clause-state g c =
    let start = c.in-Ok.ensures.ok.3.0 in
    let here = rw (c.selected-on.ensures, c.of-extra.ensures) at start in
    ap (λ (b : Bool). with_line_start b c.args.game.now) here

pub returns-clause-text : goal.returns-clause-text
unfolding characters_of
returns-clause-text g c =
    let shown = c.in-Ok.ensures.ok.3.1 in
    let here = rw (c.selected-on.ensures, c.of-extra.ensures) at shown in
    search (rules, here)
