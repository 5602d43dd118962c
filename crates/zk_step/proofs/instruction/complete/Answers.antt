use Rattle.std.proofs.Common.{◌∙◌}
use Rattle.zk_step.proofs.Steps.{carried_ok, finish_refused}
use Rattle.zk_step.proofs.Showing.{quiet_asked, told, shown_text, refused_text, same_route, stopped_there}
use Rattle.zk_step.proofs.Showing.{shown_nothing}
use Rattle.zk_step.proofs.instruction.complete.Goals as goal

pub returns-in-Err-clause-value : goal.returns-in-Err-clause-value
returns-in-Err-clause-value g c = λ found begun ready.
    let e = c.args.begun.now.effect in
    let same = same_route found.memory c.args.game.now.memory c.args.game.now e.output e.ending ready in
    stopped_there found c.args.i.now c.args.begun.now.values c.args.game.now e c.in-Err.refusal begun
    (rw same c.in-Err.ensures.value)

pub returns-in-Err-clause-text : goal.returns-in-Err-clause-text
returns-in-Err-clause-text g c = λ found begun ready.
    let e = c.args.begun.now.effect in
    let same = same_route found.memory c.args.game.now.memory c.args.game.now e.output e.ending ready in
    let whole = stopped_there found c.args.i.now c.args.begun.now.values c.args.game.now e c.in-Err.refusal begun
    (rw same c.in-Err.ensures.value) in
    rw (refused_text _ _ whole) c.in-Err.ensures.text

pub returns-in-Ok-finish-clause-value : goal.returns-in-Ok-finish-clause-value
returns-in-Ok-finish-clause-value g c = λ found begun ready.
    let e = c.args.begun.now.effect in
    let same = same_route found.memory c.args.game.now.memory c.args.game.now e.output e.ending ready in
    told _ _ _ _ (carried_ok found c.args.i.now c.args.begun.now.values c.args.game.now e c.route.new.game _
    c.finish.new.game c.in-Ok-finish.next begun (same ∙ c.in-Ok.ensures.value.0) c.in-Ok-finish.ensures.value)

pub returns-in-Ok-finish-clause-text : goal.returns-in-Ok-finish-clause-text
returns-in-Ok-finish-clause-text g c = λ found begun ready.
    let e = c.args.begun.now.effect in
    let same = same_route found.memory c.args.game.now.memory c.args.game.now e.output e.ending ready in
    let whole = carried_ok found c.args.i.now c.args.begun.now.values c.args.game.now e c.route.new.game _
    c.finish.new.game c.in-Ok-finish.next begun (same ∙ c.in-Ok.ensures.value.0) c.in-Ok-finish.ensures.value in
    rw (shown_text _ _ _ _ whole) c.in-Ok.ensures.text

pub returns-in-Err-finish-clause-value : goal.returns-in-Err-finish-clause-value
returns-in-Err-finish-clause-value g c = λ found begun ready.
    let e = c.args.begun.now.effect in
    let same = same_route found.memory c.args.game.now.memory c.args.game.now e.output e.ending ready in
    finish_refused found c.args.i.now c.args.begun.now.values c.args.game.now e c.route.new.game _
    c.in-Err-finish.refusal begun (same ∙ c.in-Ok.ensures.value.0) c.in-Err-finish.ensures.value

pub returns-in-Err-finish-clause-text : goal.returns-in-Err-finish-clause-text
returns-in-Err-finish-clause-text g c = λ found begun ready.
    let e = c.args.begun.now.effect in
    let same = same_route found.memory c.args.game.now.memory c.args.game.now e.output e.ending ready in
    let whole = finish_refused found c.args.i.now c.args.begun.now.values c.args.game.now e c.route.new.game _
    c.in-Err-finish.refusal begun (same ∙ c.in-Ok.ensures.value.0) c.in-Err-finish.ensures.value in
    rw (refused_text _ _ whole) (shown_nothing g.S.Screen.shows _ _ c.in-Err-finish.refusal _ _
    c.in-Ok.ensures.value.1 c.in-Err-finish.ensures.value c.in-Ok.ensures.text)

pub returns-in-Ok-finish-clause-quiet : goal.returns-in-Ok-finish-clause-quiet
returns-in-Ok-finish-clause-quiet g c = λ found begun ready.
    let e = c.args.begun.now.effect in
    let same = same_route found.memory c.args.game.now.memory c.args.game.now e.output e.ending ready in
    let whole = carried_ok found c.args.i.now c.args.begun.now.values c.args.game.now e c.route.new.game _
    c.finish.new.game c.in-Ok-finish.next begun (same ∙ c.in-Ok.ensures.value.0) c.in-Ok-finish.ensures.value in
    rw (shown_text _ _ _ _ whole) (quiet_asked c.route.new.game c.args.i.now c.args.begun.now.values e
    c.finish.new.game c.in-Ok-finish.next c.args.game.now.memory c.args.game.now found.memory
    c.args.game.now.memory ready c.in-Ok-finish.ensures.value)
