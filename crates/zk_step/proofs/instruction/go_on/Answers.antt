use Rattle.std.proofs.Common.{◌∙◌}
use Rattle.zk_step.proofs.HalfEnds.{all_shown, has_begun, long_routed, plain_quiet}
use Rattle.zk_step.proofs.Showing.{told}
use Rattle.zk_step.proofs.Steps.{carried_ok, finish_refused, route_refused}
use Rattle.zk_step.proofs.instruction.go_on.Goals as goal

pub give_back-requires : goal.give_back-requires
give_back-requires g c =
    let same = (c.in-Ok-true.ensures.on c.in-Ok-true.field-0-test).0 in
    rw same c.requires.taken

pub returns-in-Ok-true-clause-value : goal.returns-in-Ok-true-clause-value
returns-in-Ok-true-clause-value g c = λ found bounded taken made.
    let on = c.in-Ok-true.ensures.on c.in-Ok-true.field-0-test in
    let effect = c.in-Ok-true.ensures.same ∙ c.requires.effect in (
      c.give_back.ensures.value found bounded (rw on.0 taken),
      record {
        taken = c.args.game.now;
        values = c.args.begun.now.values;
        operands = taken;
        made = rw effect made;
        long = rw effect c.requires.long;
        way = on.1;
      },
    )

pub returns-in-Ok-clause-value : goal.returns-in-Ok-clause-value
returns-in-Ok-clause-value g c = λ found bounded taken made.
    let e = c.args.begun.now.effect in
    let same = long_routed found c.args.game.now c.args.i.now c.args.begun.now.values e.output taken c.requires.long in
    let off = rw c.requires.effect at (c.in-Ok-false.ensures.off c.in-Ok-false.field-0-test) in
    told _ _ _ _ (carried_ok found c.args.i.now c.args.begun.now.values c.args.game.now e c.route_part.new.game _
    c.finish.new.game c.in-Ok.next (has_begun found c.args.game.now c.args.i.now c.args.begun.now.values e
    taken made) (same ∙ off.0) c.in-Ok.ensures.value)

pub returns-in-Ok-clause-quiet : goal.returns-in-Ok-clause-quiet
returns-in-Ok-clause-quiet g c = λ text. plain_quiet c.route_part.new.game c.finish.new.game c.args.i.now
    c.args.begun.now.values c.args.begun.now.effect.ending c.in-Ok.next text
    (rw c.requires.effect at c.requires.way.1) c.in-Ok.ensures.value

pub returns-in-Ok-clause-text : goal.returns-in-Ok-clause-text
returns-in-Ok-clause-text g c = all_shown g.S.Screen.shows c.args.screen.now c.route_part.new.screen _ _ _
    c.args.game.now c.in-Ok-false.field-0 _ c.in-Ok-false.field-0-test c.in-Ok-false.ensures.text

pub returns-in-Err-finish-clause-value : goal.returns-in-Err-finish-clause-value
returns-in-Err-finish-clause-value g c = λ found bounded taken made.
    let e = c.args.begun.now.effect in
    let same = long_routed found c.args.game.now c.args.i.now c.args.begun.now.values e.output taken c.requires.long in
    let off = rw c.requires.effect at (c.in-Ok-false.ensures.off c.in-Ok-false.field-0-test) in
    finish_refused found c.args.i.now c.args.begun.now.values c.args.game.now e c.route_part.new.game _
    c.in-Err-finish.refusal (has_begun found c.args.game.now c.args.i.now c.args.begun.now.values e taken made)
    (same ∙ off.0) c.in-Err-finish.ensures.value

pub returns-in-Err-clause-value : goal.returns-in-Err-clause-value
returns-in-Err-clause-value g c = λ found bounded taken made.
    let e = c.args.begun.now.effect in
    let same = long_routed found c.args.game.now c.args.i.now c.args.begun.now.values e.output taken c.requires.long in
    let err = rw c.requires.effect at c.in-Err.ensures.err in
    route_refused found c.args.i.now c.args.begun.now.values c.args.game.now e c.in-Err.fault
    (has_begun found c.args.game.now c.args.i.now c.args.begun.now.values e taken made) (same ∙ err)
