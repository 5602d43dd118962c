use Rattle.std.proofs.Common.{◌<◌, ◌+◌, ◌^◌, List, ap, arith}
use Rattle.zk_step.specs.declared.output.streams.OpenTable.{OpenTable}
use Rattle.zk_step.proofs.OpenTables.{one_counted, none_counted, room_counted}
use Rattle.zk_step.proofs.output.streams.Streams.count.Goals as goal

pub overflow_add-self : goal.overflow_add-self
overflow_add-self c =
    let s = c.self.inside in
    let room : c.in-Some.table.count + c.args.codes < 2 ^ 16 = room_counted s.newest s.below.items c.in-Some.table
    c.args.codes c.in-Some.is (rw (← c.self.view_is) at c.requires) in
    omega (arith, room)

pub returns-in-Some : goal.returns-in-Some
returns-in-Some c =
    let s = c.self.inside in
    rw (← c.self.view_is) (ap (λ (ts : List OpenTable). record { screen = s.screen; tables = ts })
    (one_counted s.newest s.below.items c.in-Some.table c.args.codes c.in-Some.is))

pub returns-in_default : goal.returns-in_default
returns-in_default c =
    let s = c.self.inside in
    rw (← c.self.view_is) (ap (λ (ts : List OpenTable). record { screen = s.screen; tables = ts })
    (none_counted s.newest s.below.items c.args.codes c.in_default.not-Some))
