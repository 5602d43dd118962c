use Rattle.std.proofs.Common.{refl, inl, inr, true}
use Rattle.zk_step.specs.Routing.{routed}
use Rattle.zk_step.specs.Status.{status_units}
use Rattle.zk_tables.proofs.Units.{was_ok}
use Rattle.zk_step.proofs.Routes.{text_is_routed}
use Rattle.zk_step.proofs.output.routing.route.Goals as goal

pub returns-in-Nothing-clause-value : goal.returns-in-Nothing-clause-value
unfolding routed
returns-in-Nothing-clause-value g c = rw c.in-Nothing.is (refl, inl refl)

pub returns-in-Nothing-clause-text : goal.returns-in-Nothing-clause-text
unfolding routed
returns-in-Nothing-clause-text g c = rw c.in-Nothing.is (g.met.S.Screen.nothing _)

pub returns-in-Ok-clause-value : goal.returns-in-Ok-clause-value
unfolding routed
returns-in-Ok-clause-value g c =
    let ready = rw c.in-Status.is at c.requires in
    let units = was_ok (status_units c.args.game.now.memory) ready.1 in
    rw (c.in-Status.is, units.1, c.show_status.ensures.state) (refl, inr (c.in-Ok.ensures.ok true))

pub returns-in-Ok-clause-text : goal.returns-in-Ok-clause-text
unfolding routed
returns-in-Ok-clause-text g c =
    let ready = rw c.in-Status.is at c.requires in
    let units = was_ok (status_units c.args.game.now.memory) ready.1 in
    let text = rw units.1 at c.show_status.ensures.text in
    rw (c.in-Status.is, units.1) text

pub returns-in-Err-clause-value : goal.returns-in-Err-clause-value
unfolding routed
returns-in-Err-clause-value g c =
    let ready = rw c.in-Status.is at c.requires in
    let units = was_ok (status_units c.args.game.now.memory) ready.1 in
    rw (c.in-Status.is, units.1) (c.in-Err.ensures.err true)

pub returns-in-Ok-check-clause-value : goal.returns-in-Ok-check-clause-value
unfolding routed
returns-in-Ok-check-clause-value g c = rw c.in-Erasure.is (
  refl,
  inr (c.in-Ok-check.ensures.ok
      c.args.game.now.at_line_start),
)

pub returns-in-Ok-check-clause-text : goal.returns-in-Ok-check-clause-text
unfolding routed
returns-in-Ok-check-clause-text g c = rw c.in-Erasure.is c.erase.ensures

pub returns-in-Err-check-clause-value : goal.returns-in-Err-check-clause-value
unfolding routed
returns-in-Err-check-clause-value g c = rw c.in-Erasure.is (c.in-Err-check.ensures.err c.args.game.now.at_line_start)

pub returns-in-Ok-check-2-clause-value : goal.returns-in-Ok-check-2-clause-value
unfolding routed
returns-in-Ok-check-2-clause-value g c = rw c.in-Bleep.is (
  refl,
  inr (c.in-Ok-check-2.ensures.ok
      c.args.game.now.at_line_start),
)

pub returns-in-Ok-check-2-clause-text : goal.returns-in-Ok-check-2-clause-text
unfolding routed
returns-in-Ok-check-2-clause-text g c = rw c.in-Bleep.is c.beep.ensures

pub returns-in-Err-check-2-clause-value : goal.returns-in-Err-check-2-clause-value
unfolding routed
returns-in-Err-check-2-clause-value g c = rw c.in-Bleep.is (c.in-Err-check-2.ensures.err c.args.game.now.at_line_start)

pub returns-in_default : goal.returns-in_default
returns-in_default g c =
    let same = text_is_routed c.args.game.now.memory c.args.game.now c.args.begun.now.effect.output
    c.in_default.not-Nothing c.in_default.not-Status c.in_default.not-Erasure c.in_default.not-Bleep in
    rw same c.route_text.ensures
