use Rattle.std.proofs.Common.{◌≤◌, ap, arith}
use Rattle.zk_vm.specs.declared.limits.Limits.{Limits}
use Rattle.zk_vm.specs.Logged.{IsOn}
use Rattle.zk_vm.proofs.PausedRuns.{stop_ahead, went_ahead, went_none}
use Rattle.zk_vm.proofs.machine.pausing.PausingMachine.go_ahead.Goals as goal

pub returns-clause-on : goal.returns-clause-on
returns-clause-on g c =
    let runs = rw (← c.self.view_is) at c.requires.runs in
    let free = rw (← c.self.view_is) at c.requires.free in
    let silent = rw (← c.self.view_is) at c.requires.silent in
    let to = rw (← c.self.view_is) at c.requires.to in
    let on : IsOn c.self.inside.machine = record { runs = runs; free = free; silent = silent } in
    let limits = ap (λ (l : Limits). l.steps) c.go_ahead.ensures.limits in
    let few : c.go_ahead.new.self.state.steps ≤ c.go_ahead.new.self.limits.steps = omega (
      arith,
      c.in-Ok.ensures.few,
      limits,
      to,
    ) in
    rw (← c.self.view_is, c.in-None.is) (went_ahead g.S.Screen.shows g.met.S.Screen.nothing g.met.S.Screen.twice _
    _ c.self.inside.machine c.go_ahead.new.self on c.is_told.ensures c.in-Ok.ensures.ahead few)

pub returns-in-Err-clause-ends : goal.returns-in-Err-clause-ends
returns-in-Err-clause-ends g c =
    let runs = rw (← c.self.view_is) at c.requires.runs in
    let free = rw (← c.self.view_is) at c.requires.free in
    let silent = rw (← c.self.view_is) at c.requires.silent in
    let on : IsOn c.self.inside.machine = record { runs = runs; free = free; silent = silent } in
    rw (← c.self.view_is, c.in-None.is) (stop_ahead g.S.Screen.shows g.met.S.Screen.nothing g.met.S.Screen.twice
    g.S.Screen.full g.S.Screen.failed 0 _ _ c.self.inside.machine c.go_ahead.new.self c.in-Err.halt on
    c.is_told.ensures c.is_told-in-Err.ensures c.requires.works c.in-Err.ensures.ahead)

pub returns-in_default-clause-on : goal.returns-in_default-clause-on
returns-in_default-clause-on g c = went_none g.S.Screen.shows g.met.S.Screen.nothing g.met.S.Screen.twice _ _
    (record { runs = c.requires.runs; free = c.requires.free; silent = c.requires.silent })
