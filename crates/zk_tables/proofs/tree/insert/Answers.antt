use Rattle.std.proofs.Common.{refl, sym, arith}
use Rattle.std.proofs.lemmas.Result.{err_from_is_err_and}
use Rattle.zk_tables.proofs.TreeSteps.{AreThere, nothing_of, nothing_into, insertion_bad, insertion_into_bad}
use Rattle.zk_tables.proofs.TreeSteps.{insertion_fails, insertion_refused, removed_by, removal_stands, insert_ends}
use Rattle.zk_tables.proofs.TreeSteps.{entries_bounded}
use Rattle.zk_tables.proofs.tree.insert.Goals.{then-object-eq0-via-then-object-eq0}
use Rattle.zk_tables.proofs.tree.insert.Goals.{then-object-eq0-via-else-object-eq0+then-destination-eq0}
use Rattle.zk_tables.proofs.tree.insert.Goals as goal

pub returns-then-object-eq0-clause-value : goal.returns-then-object-eq0-clause-value
returns-then-object-eq0-clause-value c =
    elim c.then-object-eq0.branch [
      | then-object-eq0-via-then-object-eq0 w ↦ nothing_of c.args.memory.now
          c.args.object c.args.destination w.if-object-eq0.true
      | then-object-eq0-via-else-object-eq0+then-destination-eq0 w ↦ nothing_into c.args.memory.now c.args.object
          c.args.destination w.if-destination-eq0.true
    ]

pub returns-in_err-entry-clause-value : goal.returns-in_err-entry-clause-value
returns-in_err-entry-clause-value c =
    let p = err_from_is_err_and c.from_residual.result c.from_residual.ensures.1 in
    rw (p.1, p.2) (
      insertion_bad c.args.memory.now c.args.object c.args.destination _ c.if-object-eq0.false
          c.if-destination-eq0.false (sym c.in_err-entry.ensures.value),
      refl,
    )

pub returns-in_err-entry-2-clause-value : goal.returns-in_err-entry-2-clause-value
returns-in_err-entry-2-clause-value c =
    let p = err_from_is_err_and c.from_residual-in_err-entry-2.result c.from_residual-in_err-entry-2.ensures.1 in
    rw (p.1, p.2) (
      insertion_into_bad c.args.memory.now c.args.object c.args.destination _ _ c.if-object-eq0.false
          c.if-destination-eq0.false (sym c.in_ok-entry.ensures.value) (sym c.in_err-entry-2.ensures.value),
      refl,
    )

pub returns-in_err-place-clause-value : goal.returns-in_err-place-clause-value
returns-in_err-place-clause-value c =
    let p = err_from_is_err_and c.from_residual-in_err-place.result c.from_residual-in_err-place.ensures.1 in
    let there : AreThere c.args.memory.now c.args.object c.args.destination =
    record {
      real = c.if-object-eq0.false;
      real_into = c.if-destination-eq0.false;
      at = c.in_ok-entry.field-0;
      into_at = c.in_ok-entry-2.field-0;
      entry = sym c.in_ok-entry.ensures.value;
      into_entry = sym c.in_ok-entry-2.ensures.value;
    } in
    rw (p.1, p.2) (
      insertion_fails c.args.memory.now c.args.object c.args.destination _ there
          c.in_err-place.ensures.value,
      refl,
    )

pub returns-in_err-check_writes-clause-value : goal.returns-in_err-check_writes-clause-value
returns-in_err-check_writes-clause-value c =
    let p = err_from_is_err_and c.from_residual-in_err-check_writes.result
    c.from_residual-in_err-check_writes.ensures.1 in
    let there : AreThere c.args.memory.now c.args.object c.args.destination =
    record {
      real = c.if-object-eq0.false;
      real_into = c.if-destination-eq0.false;
      at = c.in_ok-entry.field-0;
      into_at = c.in_ok-entry-2.field-0;
      entry = sym c.in_ok-entry.ensures.value;
      into_entry = sym c.in_ok-entry-2.ensures.value;
    } in
    let refused = rw (c.sibling_link.ensures, c.parent_link.ensures, c.child_link.ensures) at
    c.in_err-check_writes.ensures in
    rw (p.1, p.2) (
      insertion_refused c.args.memory.now c.args.object c.args.destination _ there
          c.in_ok-place.ensures.value.1 (sym refused),
      refl,
    )

pub returns-in_err-unlink-clause-value : goal.returns-in_err-unlink-clause-value
returns-in_err-unlink-clause-value c =
    absurd (removal_stands c.args.memory.now c.args.object c.in_ok-place.place _ c.in_ok-place.ensures.value.0
    c.in_ok-place.ensures.value.1 c.in_err-unlink.ensures.value)

pub returns-clause-value : goal.returns-clause-value
returns-clause-value c =
    let there : AreThere c.args.memory.now c.args.object c.args.destination =
    record {
      real = c.if-object-eq0.false;
      real_into = c.if-destination-eq0.false;
      at = c.in_ok-entry.field-0;
      into_at = c.in_ok-entry-2.field-0;
      entry = sym c.in_ok-entry.ensures.value;
      into_entry = sym c.in_ok-entry-2.ensures.value;
    } in
    let allowed = rw (c.sibling_link.ensures, c.parent_link.ensures, c.child_link.ensures) at
    c.in_ok-check_writes.ensures in
    let without = removed_by c.args.memory.now c.unlink.new.memory c.args.object c.in_ok-place.place
    c.in_ok-place.ensures.value.0 c.in_ok-unlink.ensures.value in
    insert_ends c.args.memory.now c.unlink.new.memory c.link_first.new.memory c.args.object c.args.destination
    c.link_first.result there without (sym allowed) c.link_first.ensures.value

pub unlink-requires : goal.unlink-requires
unlink-requires c = omega (arith, c.requires, c.in_ok-place.ensures.few, entries_bounded c.args.memory.now)

pub link_first-requires : goal.link_first-requires
link_first-requires c =
    omega (arith, c.requires, c.in_ok-place.ensures.few, c.in_ok-unlink.ensures.few, entries_bounded c.args.memory.now)
