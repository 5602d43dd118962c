use Rattle.std.proofs.Common.{◌≤◌, ◌+◌, refl, arith}
use Rattle.zk_vm.proofs.Advancing.{asks_keeps, sound_moved, still_there, stepped_asked, stepped_on, stepped_err}
use Rattle.zk_vm.proofs.machine.Machine.advance.Goals as goal

pub invariant_of-self : goal.invariant_of-self
invariant_of-self g c =
    let runs = rw (← c.self.view_is) at c.requires.runs in
    let free = rw (← c.self.view_is) at c.requires.free in
    let room = rw (← c.self.view_is) at c.requires.room in
    let value = rw c.in-Ok-At.field-0-is at c.in-Ok-At.ensures.value in
    let more : c.self.inside.steps + 1 ≤ c.self.inside.limits.steps = omega (arith, room) in
    sound_moved c.self.inside _ c.args.i _ _ c.self.invariant runs refl free more refl refl refl value
    c.in-Ok-At.ensures.bounds

pub invariant_of-self-in-Ok-Asks : goal.invariant_of-self-in-Ok-Asks
invariant_of-self-in-Ok-Asks g c =
    let runs = rw (← c.self.view_is) at c.requires.runs in
    let free = rw (← c.self.view_is) at c.requires.free in
    let value = rw c.in-Ok-Asks.field-0-is at c.in-Ok-Asks.ensures.value in
    sound_moved c.self.inside _ c.args.i _ _ c.self.invariant runs refl free c.self.invariant.steps
    refl refl refl value c.in-Ok-Asks.ensures.bounds

pub returns-in-Ok-At-clause-step : goal.returns-in-Ok-At-clause-step
returns-in-Ok-At-clause-step g c =
    let fetched = rw (← c.self.view_is) at c.requires.fetched in
    let value = rw c.in-Ok-At.field-0-is at c.in-Ok-At.ensures.value in
    rw (← c.self.view_is) (stepped_on g.S.Screen.shows _ _ c.self.inside c.args.i c.carry_out.new.game
    c.in-Ok-At.pc _ fetched value c.in-Ok-At.ensures.text)

pub returns-in-Ok-Asks-clause-step : goal.returns-in-Ok-Asks-clause-step
returns-in-Ok-Asks-clause-step g c =
    let fetched = rw (← c.self.view_is) at c.requires.fetched in
    let value = rw c.in-Ok-Asks.field-0-is at c.in-Ok-Asks.ensures.value in
    let quiet = rw c.in-Ok-Asks.field-0-is at c.in-Ok-Asks.ensures.quiet in
    rw (← c.self.view_is) (stepped_asked g.S.Screen.shows g.met.S.Screen.twice _ _ _ c.self.inside _ c.args.i
    c.carry_out.new.game c.in-Ok-Asks.request _ _ fetched value quiet c.in-Ok-Asks.ensures.text
    c.meet.ensures.step c.meet.ensures.text)

pub returns-in-Err-clause-step : goal.returns-in-Err-clause-step
returns-in-Err-clause-step g c =
    let free = rw (← c.self.view_is) at c.requires.free in
    let fetched = rw (← c.self.view_is) at c.requires.fetched in
    let tells = rw c.stop_at.ensures at c.halt.ensures.value in
    rw (← c.self.view_is) (stepped_err g.S.Screen.shows _ _ c.self.inside _ c.args.i c.in-Err.refusal _ fetched
    c.in-Err.ensures.value tells free c.in-Err.ensures.text)

pub meet-requires-clause-fetched : goal.meet-requires-clause-fetched
meet-requires-clause-fetched g c =
    let fetched = rw (← c.self.view_is) at c.requires.fetched in
    let value = rw c.in-Ok-Asks.field-0-is at c.in-Ok-Asks.ensures.value in
    still_there c.self.inside c.carry_out.new.game c.args.i c.in-Ok-Asks.request _ fetched value

pub meet-requires-clause-other : goal.meet-requires-clause-other
meet-requires-clause-other g c = λ saves.
    let other = c.requires.other in
    let value = rw c.in-Ok-Asks.field-0-is at c.in-Ok-Asks.ensures.value in
    other (asks_keeps c.self.inside.game c.carry_out.new.game c.args.i c.in-Ok-Asks.request _ value saves)
