use Rattle.std.proofs.Common.{rules, arith, ◌≡◌, ◌≤◌, ◌-◌, suc, Ok, Err, Some, None, sym, subst, ℕ}
use Rattle.std.specs.Prelude.{IsOk}
use Rattle.zk_mem.specs.Map.{readable_end}
use Rattle.zk_tables.specs.PropertyList.{properties_from, property_at}
use Rattle.zk_inspect.proofs.PropertyLines.{by_first, no_list_fault, reaches_data, rest_is_list, without_first}
use Rattle.zk_inspect.proofs.listing.object_lines.write_property_list.Goals as goal

pub overflow_sub-data_end : goal.overflow_sub-data_end
overflow_sub-data_end g c = rw c.data_end.ensures.value (reaches_data c.args.memory.now c.args.address c.requires)

pub write_further_properties-requires : goal.write_further_properties-requires
write_further_properties-requires g c =
    let m = c.args.memory.now in
    let there : property_at m c.args.address ≡ Ok (Some c.in-Ok-Some.property) = search rules in
    let some : 1 ≤ readable_end m = reaches_data m c.args.address c.requires in
    let size : readable_end m ≡ suc (c.data_end.result - 1) = omega (arith, c.data_end.ensures.value, some) in
    subst (λ (a : ℕ). IsOk (properties_from m (c.data_end.result - 1) a)) (sym c.end.ensures)
    (rest_is_list m c.args.address (c.data_end.result - 1) c.in-Ok-Some.property size there c.requires)

pub returns-in-Ok-Some : goal.returns-in-Ok-Some
returns-in-Ok-Some g c =
    let m = c.args.memory.now in
    let there : property_at m c.args.address ≡ Ok (Some c.in-Ok-Some.property) = search rules in
    let some : 1 ≤ readable_end m = reaches_data m c.args.address c.requires in
    let size : readable_end m ≡ suc (c.data_end.result - 1) = omega (arith, c.data_end.ensures.value, some) in
    rw (by_first m c.args.address (c.data_end.result - 1) c.in-Ok-Some.property size there c.requires)
    (g.met.P.LineWriter.twice _ _ _ _ _ c.write_property.ensures
    (rw c.end.ensures at c.write_further_properties.ensures))

pub returns-in-Ok-None : goal.returns-in-Ok-None
returns-in-Ok-None g c =
    let m = c.args.memory.now in
    let there : property_at m c.args.address ≡ Ok None = search rules in
    let some : 1 ≤ readable_end m = reaches_data m c.args.address c.requires in
    let size : readable_end m ≡ suc (readable_end m - 1) = omega (arith, some) in
    rw (without_first m c.args.address (readable_end m - 1) size there c.requires) c.write.ensures

pub returns-in-Err : goal.returns-in-Err
returns-in-Err g c =
    let m = c.args.memory.now in
    let there : property_at m c.args.address ≡ Err c.in-Err.field-0 = search rules in
    let some : 1 ≤ readable_end m = reaches_data m c.args.address c.requires in
    let size : readable_end m ≡ suc (readable_end m - 1) = omega (arith, some) in
    absurd (no_list_fault m c.args.address (readable_end m - 1) c.in-Err.field-0 size there c.requires)
