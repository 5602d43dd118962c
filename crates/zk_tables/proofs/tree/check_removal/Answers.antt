use Rattle.std.proofs.Common.{◌≡◌, Ok, Some, None, sym}
use Rattle.std.proofs.lemmas.Result.{err_from_is_err_and}
use Rattle.zk_tables.specs.Tree.{naming_of}
use Rattle.zk_tables.proofs.Steps.{is_ok_of}
use Rattle.zk_tables.proofs.TreeSteps.{no_removal, bad_removal, removal_refused, removal_done}
use Rattle.zk_tables.proofs.tree.check_removal.Goals as goal

pub returns-in_err-place-clause-value : goal.returns-in_err-place-clause-value
returns-in_err-place-clause-value c =
    let p = err_from_is_err_and c.from_residual.result c.from_residual.ensures.1 in
    rw (p.1, p.2) (bad_removal c.args.memory.now c.args.object _ (sym c.in_err-place.ensures.value))

pub returns-in_default-clause-value : goal.returns-in_default-clause-value
returns-in_default-clause-value c =
    let none : naming_of c.args.memory.now c.args.object ≡ Ok None = rw c.in_default.is at
    (sym c.in_ok-place.ensures.value) in
    (none, is_ok_of _ c.args.memory.now (no_removal c.args.memory.now c.args.object none))

pub returns-in_err-check_writes-clause-value : goal.returns-in_err-check_writes-clause-value
returns-in_err-check_writes-clause-value c =
    let p = err_from_is_err_and c.from_residual-in_err-check_writes.result
    c.from_residual-in_err-check_writes.ensures.1 in
    let named : naming_of c.args.memory.now c.args.object ≡ Ok (Some c.in-Some.place) = rw c.in-Some.is at
    (sym c.in_ok-place.ensures.value) in
    let refused = rw (c.parent_link.ensures, c.sibling_link.ensures) at c.in_err-check_writes.ensures in
    rw (p.1, p.2) (removal_refused c.args.memory.now c.args.object c.in-Some.place _ named (sym refused))

pub returns-clause-value : goal.returns-clause-value
returns-clause-value c =
    let named : naming_of c.args.memory.now c.args.object ≡ Ok (Some c.in-Some.place) = rw c.in-Some.is at
    (sym c.in_ok-place.ensures.value) in
    let allowed = rw (c.parent_link.ensures, c.sibling_link.ensures) at c.in_ok-check_writes.ensures in
    (named, removal_done c.args.memory.now c.args.object c.in-Some.place named (sym allowed))
