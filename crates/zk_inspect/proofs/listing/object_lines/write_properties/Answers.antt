use Rattle.std.proofs.Common.{rules, ◌≡◌, Ok, Err}
use Rattle.zk_tables.specs.Properties.{list_of}
use Rattle.zk_inspect.proofs.PropertyLines.{text_of_fault, text_of_list, with_list, without_list}
use Rattle.zk_inspect.proofs.listing.object_lines.write_properties.Goals as goal

pub write_property_list-requires : goal.write_property_list-requires
write_property_list-requires g c =
    let there : list_of c.args.memory.now c.args.object ≡ Ok c.in-Ok.address = search rules in
    rw (with_list c.args.memory.now c.args.object c.in-Ok.address there) at c.in-Ok-check_properties.ensures.value

pub returns-in-Ok-check_properties : goal.returns-in-Ok-check_properties
returns-in-Ok-check_properties g c =
    let there : list_of c.args.memory.now c.args.object ≡ Ok c.in-Ok.address = search rules in
    let same = with_list c.args.memory.now c.args.object c.in-Ok.address there in
    rw (text_of_list _ _ same (rw same at c.in-Ok-check_properties.ensures.value)) c.write_property_list.ensures

pub returns-in-Err-check_properties : goal.returns-in-Err-check_properties
returns-in-Err-check_properties g c =
    rw (text_of_fault _ c.in-Err-check_properties.fault c.in-Err-check_properties.ensures.value)
    (rw c.number.ensures at c.write_decimal.ensures)

pub returns-in-Err : goal.returns-in-Err
returns-in-Err g c =
    let there : list_of c.args.memory.now c.args.object ≡ Err c.in-Err.fault = search rules in
    rw (text_of_fault _ c.in-Err.fault (without_list c.args.memory.now c.args.object c.in-Err.fault there))
    (rw c.number-in-Err.ensures at c.write_decimal-in-Err.ensures)
