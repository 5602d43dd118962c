use Rattle.std.proofs.Common.{◌≤◌, ◌+◌, refl, arith}
use Rattle.zk_vm.proofs.Advancing.{asks_keeps, sound_moved, still_there}
use Rattle.zk_vm.proofs.Pauses.{made_asked, made_at, made_err}
use Rattle.zk_vm.proofs.machine.Machine.advance_part.Goals as goal

pub invariant_of-self-in-Ok-Done-At : goal.invariant_of-self-in-Ok-Done-At
invariant_of-self-in-Ok-Done-At g c =
    let runs = rw (← c.self.view_is) at c.requires.runs in
    let free = rw (← c.self.view_is) at c.requires.free in
    let room = rw (← c.self.view_is) at c.requires.room in
    let value = rw (c.in-Ok-Done-At.field-0-is, c.in-Ok-Done-At.field-0-0-is) at c.in-Ok-Done-At.ensures.value in
    let more : c.self.inside.steps + 1 ≤ c.self.inside.limits.steps = omega (arith, room) in
    sound_moved c.self.inside _ c.args.i _ _ c.self.invariant runs refl free more refl refl refl value
    c.in-Ok-Done-At.ensures.bounds

pub invariant_of-self-in-Ok-Done-Asks : goal.invariant_of-self-in-Ok-Done-Asks
invariant_of-self-in-Ok-Done-Asks g c =
    let runs = rw (← c.self.view_is) at c.requires.runs in
    let free = rw (← c.self.view_is) at c.requires.free in
    let value = rw (c.in-Ok-Done-Asks.field-0-is, c.in-Ok-Done-Asks.field-0-0-is) at c.in-Ok-Done-Asks.ensures.value in
    sound_moved c.self.inside _ c.args.i _ _ c.self.invariant runs refl free c.self.invariant.steps
    refl refl refl value c.in-Ok-Done-Asks.ensures.bounds

pub meet-requires-clause-fetched : goal.meet-requires-clause-fetched
meet-requires-clause-fetched g c =
    let fetched = rw (← c.self.view_is) at c.requires.fetched in
    let value = rw (c.in-Ok-Done-Asks.field-0-is, c.in-Ok-Done-Asks.field-0-0-is) at c.in-Ok-Done-Asks.ensures.value in
    still_there c.self.inside c.carry_out_part.new.game c.args.i c.in-Ok-Done-Asks.request _ fetched value

pub returns-in-Ok-Done-At-clause-step : goal.returns-in-Ok-Done-At-clause-step
returns-in-Ok-Done-At-clause-step g c =
    let fetched = rw (← c.self.view_is) at c.requires.fetched in
    let value = rw (c.in-Ok-Done-At.field-0-is, c.in-Ok-Done-At.field-0-0-is) at c.in-Ok-Done-At.ensures.value in
    let text = rw (c.in-Ok-Done-At.field-0-is) at c.in-Ok-Done-At.ensures.text in
    rw (← c.self.view_is) (made_at g.S.Screen.shows _ _ c.self.inside c.args.i c.args.half.now
    c.carry_out_part.new.game c.in-Ok-Done-At.pc _ fetched value refl text)

pub returns-in-Ok-clause-step : goal.returns-in-Ok-clause-step
returns-in-Ok-clause-step g c =
    let fetched = rw (← c.self.view_is) at c.requires.fetched in
    let half = rw (← c.self.view_is) at c.requires.half in
    let value = rw (c.in-Ok-Done-Asks.field-0-is, c.in-Ok-Done-Asks.field-0-0-is) at c.in-Ok-Done-Asks.ensures.value in
    let quiet = rw (c.in-Ok-Done-Asks.field-0-is, c.in-Ok-Done-Asks.field-0-0-is) at c.in-Ok-Done-Asks.ensures.quiet in
    let text = rw (c.in-Ok-Done-Asks.field-0-is) at c.in-Ok-Done-Asks.ensures.text in
    rw (← c.self.view_is) (made_asked g.S.Screen.shows g.met.S.Screen.twice _ _ _ c.self.inside _ c.args.i
    c.args.half.now _ _ c.carry_out_part.new.game c.in-Ok-Done-Asks.request _ _ half fetched value refl quiet
    text (rw c.in-Ok.is at c.meet.ensures.step) c.meet.ensures.text)

pub returns-in-Err-meet-clause-step : goal.returns-in-Err-meet-clause-step
returns-in-Err-meet-clause-step g c =
    let fetched = rw (← c.self.view_is) at c.requires.fetched in
    let half = rw (← c.self.view_is) at c.requires.half in
    let value = rw (c.in-Ok-Done-Asks.field-0-is, c.in-Ok-Done-Asks.field-0-0-is) at c.in-Ok-Done-Asks.ensures.value in
    let quiet = rw (c.in-Ok-Done-Asks.field-0-is, c.in-Ok-Done-Asks.field-0-0-is) at c.in-Ok-Done-Asks.ensures.quiet in
    let text = rw (c.in-Ok-Done-Asks.field-0-is) at c.in-Ok-Done-Asks.ensures.text in
    rw (← c.self.view_is) (made_asked g.S.Screen.shows g.met.S.Screen.twice _ _ _ c.self.inside _ c.args.i
    c.args.half.now _ _ c.carry_out_part.new.game c.in-Ok-Done-Asks.request _ _ half fetched value refl quiet
    text (rw c.in-Err-meet.is at c.meet.ensures.step) c.meet.ensures.text)

pub returns-in-Err-clause-step : goal.returns-in-Err-clause-step
returns-in-Err-clause-step g c =
    let free = rw (← c.self.view_is) at c.requires.free in
    let fetched = rw (← c.self.view_is) at c.requires.fetched in
    let half = rw (← c.self.view_is) at c.requires.half in
    rw (← c.self.view_is) (made_err g.S.Screen.shows _ _ c.self.inside _ c.args.i c.args.half.now _ _
    c.in-Err.refusal _ half fetched c.in-Err.ensures.value (rw c.stop_at-stop.ensures refl) free
    c.in-Err.ensures.text)

pub meet-requires-clause-other : goal.meet-requires-clause-other
meet-requires-clause-other g c = λ saves.
    let other = c.requires.other in
    let value = rw (c.in-Ok-Done-Asks.field-0-is, c.in-Ok-Done-Asks.field-0-0-is) at c.in-Ok-Done-Asks.ensures.value in
    other (asks_keeps c.self.inside.game c.carry_out_part.new.game c.args.i c.in-Ok-Done-Asks.request _ value saves)
