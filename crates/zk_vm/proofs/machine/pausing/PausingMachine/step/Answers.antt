use Rattle.std.proofs.Common.{refl}
use Rattle.zk_vm.specs.Logged.{IsOn}
use Rattle.zk_vm.proofs.PausedRuns.{cut_on, ended_on, made_on, short_on}
use Rattle.zk_vm.proofs.machine.pausing.PausingMachine.step.Goals as goal

pub returns-in-Ok-Part-clause-on : goal.returns-in-Ok-Part-clause-on
returns-in-Ok-Part-clause-on g c =
    let runs = rw (← c.self.view_is) at c.requires.runs in
    let free = rw (← c.self.view_is) at c.requires.free in
    let silent = rw (← c.self.view_is) at c.requires.silent in
    let room = rw (← c.self.view_is) at c.requires.room in
    let on : IsOn c.self.inside.machine = record { runs = runs; free = free; silent = silent } in
    let part = (rw c.in-Ok-Part.field-0-is at c.in-Ok-Part.ensures.part) refl in
    let cut = part.2 in
    rw (← c.self.view_is, part.1) (cut_on g.S.Screen.shows g.met.S.Screen.nothing g.met.S.Screen.twice _ _
    c.self.inside.machine c.step_part.new.self cut.instruction c.self.inside.half _ _ part.0 on room
    cut.fetched cut.cut)

pub returns-in-Ok-Done-clause-on : goal.returns-in-Ok-Done-clause-on
returns-in-Ok-Done-clause-on g c =
    let runs = rw (← c.self.view_is) at c.requires.runs in
    let free = rw (← c.self.view_is) at c.requires.free in
    let silent = rw (← c.self.view_is) at c.requires.silent in
    let room = rw (← c.self.view_is) at c.requires.room in
    let on : IsOn c.self.inside.machine = record { runs = runs; free = free; silent = silent } in
    let step = rw (c.in-Ok-Done.is, c.in-Ok-Done.field-0-is) at c.step_part.ensures.step in
    let none = (rw c.in-Ok-Done.field-0-is at c.in-Ok-Done.ensures.none) (λ e. absurd cc) in
    rw (← c.self.view_is, none) (made_on g.S.Screen.shows g.met.S.Screen.nothing g.met.S.Screen.twice _ _
    c.self.inside.machine c.step_part.new.self c.self.inside.half on room c.in-Ok-Done.ensures.silent step)

pub returns-in-Err-clause-ends : goal.returns-in-Err-clause-ends
returns-in-Err-clause-ends g c =
    let runs = rw (← c.self.view_is) at c.requires.runs in
    let free = rw (← c.self.view_is) at c.requires.free in
    let silent = rw (← c.self.view_is) at c.requires.silent in
    let room = rw (← c.self.view_is) at c.requires.room in
    let on : IsOn c.self.inside.machine = record { runs = runs; free = free; silent = silent } in
    let step = rw c.in-Err.is at c.step_part.ensures.step in
    rw (← c.self.view_is, c.in-Err.ensures.over) (ended_on g.S.Screen.shows g.met.S.Screen.nothing
    g.met.S.Screen.twice g.S.Screen.full g.S.Screen.failed 0 _ _ c.self.inside.machine c.step_part.new.self
    c.self.inside.half _ _ c.in-Err.halt c.self.invariant.half on room c.requires.works step)

pub returns-in-Ok-NoMemory-clause-short : goal.returns-in-Ok-NoMemory-clause-short
returns-in-Ok-NoMemory-clause-short g c = λ e.
    let made = rw (c.in-Ok-NoMemory.is, c.in-Ok-NoMemory.field-0-is) at c.step_part.ensures.step in
    let there = short_on g.S.Screen.shows g.met.S.Screen.nothing g.met.S.Screen.twice c.self.inside.machine
    c.step_part.new.self c.self.inside.half _ _ c.self.invariant.half made.0 made.1 in
    let none = (rw c.in-Ok-NoMemory.field-0-is at c.in-Ok-NoMemory.ensures.none) (λ e. absurd cc) in
    rw (← c.self.view_is, none) (there, made.1, made.2)
