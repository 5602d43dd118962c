use Rattle.std.proofs.Common.{◌≤◌, ◌<◌, ◌+◌, ◌-◌, refl, arith}
use Rattle.zk_vm.proofs.Keeping.{seen}
use Rattle.zk_vm.proofs.Ahead.{seen_ahead, seen_stop, sound_ahead}
use Rattle.zk_vm.proofs.machine.Machine.go_ahead.Goals as goal

pub invariant_of-self : goal.invariant_of-self
invariant_of-self g c =
    let runs = rw (← c.self.view_is) at c.requires.runs in
    let free = rw (← c.self.view_is) at c.requires.free in
    let quiet_steps = rw c.in-None.is at c.run_ahead-batch.ensures.goes in
    let from = rw (← c.self.view_is) at c.requires.from in
    let to = rw (← c.self.view_is) at c.requires.to in
    let more : c.self.inside.steps + c.run_ahead-batch.result.made ≤ c.self.inside.limits.steps = omega (
      arith,
      c.run_ahead-batch.ensures.few,
      from,
      to,
    ) in
    sound_ahead c.self.inside _ c.run_ahead-batch.result.made quiet_steps c.self.invariant runs refl free more
    refl refl c.run_ahead-batch.ensures.cache c.run_ahead-batch.ensures.bounds

pub returns-in-None-clause-ahead : goal.returns-in-None-clause-ahead
returns-in-None-clause-ahead g c =
    let quiet_steps = rw c.in-None.is at c.run_ahead-batch.ensures.goes in
    let noted = rw c.in-None.is at c.run_ahead-batch.ensures.places in
    rw (← c.self.view_is) (seen_ahead (g.P.Places.noted c.args.places.now c.run_ahead-batch.new.places)
    c.self.inside c.run_ahead-batch.result.made c.run_ahead-batch.new.game c.run_ahead-batch.result.pc
    quiet_steps noted)

pub returns-in-Some-clause-ahead : goal.returns-in-Some-clause-ahead
returns-in-Some-clause-ahead g c =
    let free = rw (← c.self.view_is) at c.requires.free in
    let refused = rw c.in-Some.is at c.run_ahead-batch.ensures.goes in
    let noted = rw c.in-Some.is at c.run_ahead-batch.ensures.places in
    let from = rw (← c.self.view_is) at c.requires.from in
    let to = rw (← c.self.view_is) at c.requires.to in
    let few = rw c.in-Some.is at c.run_ahead-batch.ensures.room in
    let room : c.run_ahead-batch.result.made < c.self.inside.limits.steps - c.self.inside.steps = omega (
      arith,
      few,
      from,
      to,
    ) in
    let tells = rw c.stop_at.ensures at c.halt.ensures.value in
    rw (← c.self.view_is) (seen_stop (g.P.Places.noted c.args.places.now c.run_ahead-batch.new.places)
    (seen c.self.inside) _ _ c.run_ahead-batch.result.made c.run_ahead-batch.result.pc
    c.run_ahead-batch.new.game c.in-Some.refusal tells room refused noted free)
