use Rattle.std.proofs.Common.{◌≡◌, ◌<◌, List, length, ap, rules}
use Rattle.zk_step.specs.declared.output.streams.OpenTable.{OpenTable}
use Rattle.zk_step.proofs.OpenTables.{last_closed, newest_closed}
use Rattle.zk_step.proofs.output.streams.Streams.close.Goals as goal

pub returns-then-is_empty : goal.returns-then-is_empty
returns-then-is_empty c =
    let s = c.self.inside in
    let none : length s.below.items ≡ 0 = search rules in
    rw (← c.self.view_is) (ap (λ (ts : List OpenTable). record { screen = s.screen; tables = ts })
    (last_closed s.newest s.below.items none))

pub returns-else-is_empty : goal.returns-else-is_empty
returns-else-is_empty c =
    let s = c.self.inside in
    let some : 0 < length s.below.items = search rules in
    rw (← c.self.view_is, c.remove.ensures.items, c.remove.ensures.value)
    (ap (λ (ts : List OpenTable). record { screen = s.screen; tables = ts })
    (newest_closed s.newest s.below.items c.remove.result c.self.invariant some))
