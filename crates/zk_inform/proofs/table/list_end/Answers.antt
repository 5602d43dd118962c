use Rattle.std.proofs.Common.{arith, rules, ◌≡◌, ◌∙◌, ◌-◌, ◌+◌, sym, Some, None, Ok, Err}
use Rattle.zk_mem.specs.Map.{readable_end}
use Rattle.zk_tables.specs.PropertyList.{property_at}
use Rattle.zk_inform.proofs.Ends.{list_begins, list_fails, list_goes_on, list_lacks, list_stops}
use Rattle.zk_inform.proofs.table.list_end.Goals as goal

pub loop-i-init : goal.loop-i-init
loop-i-init c = list_begins c.args.memory.now _ c.args.address (omega arith)

pub loop-i-preserved : goal.loop-i-preserved
loop-i-preserved c =
    let m = c.args.memory.now in
    let there : property_at m c.loop-i.at ≡ Ok (Some c.in-Ok-Some.property) = search rules in
    list_goes_on m (readable_end m - c.loop-i._i) (readable_end m - (c.loop-i._i + 1)) c.loop-i.at _
    c.in-Ok-Some.property (omega (arith, c.data_end-i-end.ensures.value)) c.end-at.ensures there ∙ c.loop-i.invariant

pub returns-in-Ok-None-clause-value : goal.returns-in-Ok-None-clause-value
returns-in-Ok-None-clause-value c =
    let m = c.args.memory.now in
    let there : property_at m c.loop-i.at ≡ Ok None = search rules in
    sym (list_stops m (readable_end m - c.loop-i._i) (readable_end m - (c.loop-i._i + 1)) c.loop-i.at
    (omega (arith, c.data_end-i-end.ensures.value)) there) ∙ c.loop-i.invariant

pub returns-in-Err-clause-value : goal.returns-in-Err-clause-value
returns-in-Err-clause-value c =
    let m = c.args.memory.now in
    let there : property_at m c.loop-i.at ≡ Err c.in-Err.field-0 = search rules in
    sym (list_fails m (readable_end m - c.loop-i._i) (readable_end m - (c.loop-i._i + 1)) c.loop-i.at
    c.in-Err.field-0 (omega (arith, c.data_end-i-end.ensures.value)) there) ∙ c.loop-i.invariant

pub returns-clause-value : goal.returns-clause-value
returns-clause-value c =
    let m = c.args.memory.now in
    sym (list_lacks m (readable_end m - c.loop-i._i) c.loop-i.at (omega (arith, c.data_end-i-end.ensures.value)))
    ∙ c.loop-i.invariant
