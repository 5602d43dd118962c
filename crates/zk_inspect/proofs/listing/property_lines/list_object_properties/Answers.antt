use Rattle.std.proofs.Common.{rules, ◌≡◌, ◌∙◌, Ok, Err, sym}
use Rattle.zk_tables.specs.Properties.{list_of}
use Rattle.zk_inspect.specs.PropertyBytes.{object_properties}
use Rattle.zk_inspect.proofs.LastLists.{has_marked, lacks_unmarked}
use Rattle.zk_inspect.proofs.PropertyLines.{facts_of_fault, facts_of_list, with_list, without_list}
use Rattle.zk_inspect.proofs.listing.property_lines.list_object_properties.Goals as goal

pub returns-then-has_ended : goal.returns-then-has_ended
returns-then-has_ended g c =
    g.met.F.FactWriter.late _ (object_properties c.args.memory.now c.args.object)
    (sym c.has_ended.ensures ∙ c.if-has_ended.true)

pub list_properties_at-requires : goal.list_properties_at-requires
list_properties_at-requires g c =
    has_marked c.args.memory.now c.in-Ok.address c.args.lists.now c.has_bytes.ensures c.requires
    (sym c.is_marked.ensures ∙ c.if-is_marked.true)

pub returns-then-is_marked : goal.returns-then-is_marked
returns-then-is_marked g c =
    let m = c.args.memory.now in
    let there : list_of m c.args.object ≡ Ok c.in-Ok.address = search rules in
    let same = with_list m c.args.object c.in-Ok.address there in
    let is = has_marked m c.in-Ok.address c.args.lists.now c.has_bytes.ensures c.requires
    (sym c.is_marked.ensures ∙ c.if-is_marked.true) in
    rw (facts_of_list c.args.object _ _ same is) c.list_properties_at.ensures

pub returns-else-is_marked : goal.returns-else-is_marked
returns-else-is_marked g c =
    let m = c.args.memory.now in
    let there : list_of m c.args.object ≡ Ok c.in-Ok.address = search rules in
    let none = with_list m c.args.object c.in-Ok.address there
    ∙ lacks_unmarked m c.in-Ok.address c.args.lists.now c.has_bytes.ensures c.requires
    (sym c.is_marked.ensures ∙ c.if-is_marked.false) in
    rw (facts_of_fault c.args.object _ _ none) c.write.ensures

pub returns-in-Err : goal.returns-in-Err
returns-in-Err g c =
    let m = c.args.memory.now in
    let there : list_of m c.args.object ≡ Err c.in-Err.fault = search rules in
    rw (facts_of_fault c.args.object _ c.in-Err.fault (without_list m c.args.object c.in-Err.fault there))
    c.write-in-Err.ensures
