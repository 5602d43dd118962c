use Rattle.std.proofs.Common.{◌≡◌, Ok, Some, None, sym}
use Rattle.std.proofs.lemmas.Result.{err_from_is_err_and}
use Rattle.zk_tables.specs.PropertyList.{property_at}
use Rattle.zk_tables.proofs.ListSteps.{first_bad, first_some, first_none, first_stops}
use Rattle.zk_tables.proofs.lists.find_first_number.Goals as goal

pub returns-in_err-check_list : goal.returns-in_err-check_list
returns-in_err-check_list c =
    let p = err_from_is_err_and c.from_residual.result c.from_residual.ensures.1 in
    rw (p.1, p.2) (sym (first_bad c.args.memory.now c.args.address _ c.in_err-check_list.ensures))

pub returns-in_err-property : goal.returns-in_err-property
returns-in_err-property c =
    absurd (first_stops c.args.memory.now c.args.address _ c.in_ok-check_list.ensures
    (sym c.in_err-property.ensures.value))

pub returns-in-Some : goal.returns-in-Some
returns-in-Some c =
    let read : property_at c.args.memory.now c.args.address ≡ Ok (Some c.in-Some.property) = rw c.in-Some.is at
    (sym c.in_ok-property.ensures.value) in
    sym (first_some c.args.memory.now c.args.address c.in-Some.property c.in_ok-check_list.ensures read)

pub returns-in-None : goal.returns-in-None
returns-in-None c =
    let read : property_at c.args.memory.now c.args.address ≡ Ok None = rw c.in-None.is at
    (sym c.in_ok-property.ensures.value) in
    sym (first_none c.args.memory.now c.args.address read)
