use Rattle.std.proofs.Common.{sym}
use Rattle.zk_code.proofs.Longer.{ends_inside}
use Rattle.zk_vm.proofs.Advancing.{stepped_fault}
use Rattle.zk_vm.proofs.machine.Machine.step.Goals as goal

pub advance-requires-clause-inside : goal.advance-requires-clause-inside
advance-requires-clause-inside g c =
    let ends = ends_inside c.self.inside.game.memory c.self.inside.pc c.in-Ok.i c.in-Ok.i.next c.in-Ok.ensures.found in
    rw (← c.self.view_is) ends.0

pub returns-in-Err-clause-step : goal.returns-in-Err-clause-step
returns-in-Err-clause-step g c =
    let free = rw (← c.self.view_is) at c.requires.free in
    let fault = sym c.in-Err.ensures.value in
    rw (← c.self.view_is) (stepped_fault g.S.Screen.shows _ c.self.inside _ c.in-Err.fault _ fault
    c.halt.ensures.value free (g.met.S.Screen.nothing _))

pub keep-requires-clause-inside : goal.keep-requires-clause-inside
keep-requires-clause-inside g c =
    let ends = ends_inside c.self.inside.game.memory c.self.inside.pc c.in-Ok.i c.in-Ok.i.next c.in-Ok.ensures.found in
    rw (← c.self.view_is) ends.0
