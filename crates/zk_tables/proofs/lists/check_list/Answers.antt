use Rattle.std.proofs.Common.{◌≡◌, ℕ, sym, subst, ◌∙◌}
use Rattle.std.proofs.lemmas.Result.{err_from_is_err_and}
use Rattle.zk_tables.specs.PropertyList.{properties_at}
use Rattle.zk_tables.proofs.Steps.{fault_in}
use Rattle.zk_tables.proofs.ListEnds.{list_ends, list_fails, list_goes_on, list_unread, less_left}
use Rattle.zk_tables.proofs.ListSteps.{list_done, list_failed, list_end, list_stops, list_fault_next}
use Rattle.zk_tables.proofs.lists.check_list.Goals as goal

pub returns-in_err-first : goal.returns-in_err-first
returns-in_err-first c =
    let p = err_from_is_err_and c.from_residual.result c.from_residual.ensures.1 in
    rw (p.1, p.2) (list_failed c.args.memory.now c.args.address c.loop-first.at _ c.loop-first.invariant
    (list_stops c.args.memory.now c.loop-first.at _
    (list_unread c.args.memory.now c.loop-first.at _ (sym c.in_err-first.ensures.value))))

pub returns-then-first-eq0 : goal.returns-then-first-eq0
returns-then-first-eq0 c = list_done c.args.memory.now c.args.address c.loop-first.at c.loop-first.invariant
    (list_end c.args.memory.now c.loop-first.at (list_ends c.args.memory.now c.loop-first.at c.in_ok-first.first
    (sym c.in_ok-first.ensures.value) c.if-first-eq0.true))

pub returns-in_err-at : goal.returns-in_err-at
returns-in_err-at c =
    let p = err_from_is_err_and c.from_residual-in_err-at.result c.from_residual-in_err-at.ensures.1 in
    rw (p.1, p.2) (list_failed c.args.memory.now c.args.address c.loop-first.at _ c.loop-first.invariant
    (list_stops c.args.memory.now c.loop-first.at _
    (list_fails c.args.memory.now c.loop-first.at c.in_ok-first.first _ (sym c.in_ok-first.ensures.value)
    c.in_err-at.ensures)))

pub loop-first-preserved : goal.loop-first-preserved
loop-first-preserved c =
    let e = c.in_ok-at.ensures in
    let read = list_goes_on c.args.memory.now c.loop-first.at c.in_ok-first.first c.in_ok-at.at
    (sym c.in_ok-first.ensures.value) e in
    subst (λ (b : ℕ). fault_in (properties_at c.args.memory.now b) ≡ fault_in
    (properties_at c.args.memory.now c.args.address)) e.behind
    (sym (list_fault_next c.args.memory.now c.loop-first.at e.property read) ∙ c.loop-first.invariant)

pub loop-first-smaller : goal.loop-first-smaller
loop-first-smaller c = less_left c.args.memory.now c.loop-first.at c.in_ok-first.first c.in_ok-at.at
    (sym c.in_ok-first.ensures.value) c.in_ok-at.ensures
