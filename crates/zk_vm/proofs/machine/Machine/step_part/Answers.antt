use Rattle.std.proofs.Common.{◌≡◌, Ok, refl, sym}
use Rattle.zk_code.specs.Reading.{instr_at}
use Rattle.zk_code.proofs.Longer.{ends_inside}
use Rattle.zk_vm.specs.Pausing.{GotDue}
use Rattle.zk_vm.proofs.Advancing.{shown_silent}
use Rattle.zk_vm.proofs.PausedRuns.{silent_due}
use Rattle.zk_vm.proofs.Pauses.{made_fault}
use Rattle.zk_vm.proofs.machine.Machine.step_part.Goals as goal

pub advance_part-requires-clause-inside : goal.advance_part-requires-clause-inside
advance_part-requires-clause-inside g c =
    let ends = ends_inside c.self.inside.game.memory c.self.inside.pc c.in-Ok.i c.in-Ok.i.next c.in-Ok.ensures.found in
    rw (← c.self.view_is) ends.0

pub returns-in-Err-clause-step : goal.returns-in-Err-clause-step
returns-in-Err-clause-step g c =
    let free = rw (← c.self.view_is) at c.requires.free in
    let half = rw (← c.self.view_is) at c.requires.half in
    let fault = sym c.in-Err.ensures.value in
    rw (← c.self.view_is) (made_fault g.S.Screen.shows _ c.self.inside _ c.args.half.now _ _ c.in-Err.fault _ half
    fault refl free (g.met.S.Screen.nothing _))

pub keep-requires-clause-inside : goal.keep-requires-clause-inside
keep-requires-clause-inside g c =
    let ends = ends_inside c.self.inside.game.memory c.self.inside.pc c.in-Ok.i c.in-Ok.i.next c.in-Ok.ensures.found in
    rw (← c.self.view_is) ends.0

pub returns-in-Err-keep-clause-step : goal.returns-in-Err-keep-clause-step
returns-in-Err-keep-clause-step g c = (c.in-Err-keep.ensures.short.0, c.in-Err-keep.ensures.short.1, refl)

pub returns-in-Ok-Ok-clause-step : goal.returns-in-Ok-Ok-clause-step
returns-in-Ok-Ok-clause-step g c =
    let fetched : instr_at c.args.self.now.state.game.memory c.args.self.now.state.pc ≡ Ok
    c.in-Ok.i = rw (← c.self.view_is) (sym c.in-Ok.ensures.value) in
    let step = rw c.in-Ok-Ok.field-0-is at c.in-Ok-Ok.ensures.step in
    shown_silent _ _ _ (GotDue g.S.Screen.shows c.args.screen.now c.args.screen.now c.args.self.now.state.game
    c.args.half.now) step (silent_due g.S.Screen.shows g.met.S.Screen.nothing g.met.S.Screen.twice
    c.args.screen.now c.args.self.now c.in-Ok.i c.args.half.now _ _ c.requires.half fetched
    (c.if-keeps_state.ensures.0 refl))

pub returns-in-Ok-Err-clause-step : goal.returns-in-Ok-Err-clause-step
returns-in-Ok-Err-clause-step g c =
    let fetched : instr_at c.args.self.now.state.game.memory c.args.self.now.state.pc ≡ Ok
    c.in-Ok.i = rw (← c.self.view_is) (sym c.in-Ok.ensures.value) in
    let step = rw c.in-Ok-Err.field-0-is at c.in-Ok-Err.ensures.step in
    shown_silent _ _ _ (GotDue g.S.Screen.shows c.args.screen.now c.args.screen.now c.args.self.now.state.game
    c.args.half.now) step (silent_due g.S.Screen.shows g.met.S.Screen.nothing g.met.S.Screen.twice
    c.args.screen.now c.args.self.now c.in-Ok.i c.args.half.now _ _ c.requires.half fetched
    (c.if-keeps_state.ensures.0 refl))

pub advance-requires-clause-inside : goal.advance-requires-clause-inside
advance-requires-clause-inside g c =
    let ends = ends_inside c.self.inside.game.memory c.self.inside.pc c.in-Ok.i c.in-Ok.i.next c.in-Ok.ensures.found in
    rw (← c.self.view_is) ends.0
