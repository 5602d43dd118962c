use Rattle.std.proofs.Common.{◌≡◌, ◌≢◌, ℕ, sym, ap, subst, ◌∙◌}
use Rattle.std.proofs.lemmas.Result.{err_from_is_err_and}
use Rattle.zk_tables.specs.PropertyList.{number_after_at, number_in}
use Rattle.zk_tables.proofs.ListEnds.{list_ends, list_fails, list_goes_on, list_unread, less_left}
use Rattle.zk_tables.proofs.ListSteps.{after_next, after_end, after_stops, after_here}
use Rattle.zk_tables.proofs.lists.find_number_after.Goals as goal

pub returns-in_err-first : goal.returns-in_err-first
returns-in_err-first c =
    let p = err_from_is_err_and c.from_residual.result c.from_residual.ensures.1 in
    rw (p.1, p.2) (sym (after_stops c.args.memory.now c.loop-first.at c.args.number _
    (list_unread c.args.memory.now c.loop-first.at _ (sym c.in_err-first.ensures.value))) ∙ c.loop-first.invariant)

pub returns-then-first-eq0 : goal.returns-then-first-eq0
returns-then-first-eq0 c =
    let read = list_ends c.args.memory.now c.loop-first.at c.in_ok-first.first (sym c.in_ok-first.ensures.value)
    c.if-first-eq0.true in
    sym (after_end c.args.memory.now c.loop-first.at c.args.number read) ∙ c.loop-first.invariant

pub returns-in_err-end : goal.returns-in_err-end
returns-in_err-end c =
    let p = err_from_is_err_and c.from_residual-in_err-end.result c.from_residual-in_err-end.ensures.1 in
    rw (p.1, p.2) (sym (after_stops c.args.memory.now c.loop-first.at c.args.number _
    (list_fails c.args.memory.now c.loop-first.at c.in_ok-first.first _ (sym c.in_ok-first.ensures.value)
    c.in_err-end.ensures)) ∙ c.loop-first.invariant)

pub returns-then-number_in-number : goal.returns-then-number_in-number
returns-then-number_in-number c =
    let e = c.in_ok-end.ensures in
    let read = list_goes_on c.args.memory.now c.loop-first.at c.in_ok-first.first c.in_ok-end.end
    (sym c.in_ok-first.ensures.value) e in
    let same : e.property.number ≡ c.number_in.result = e.number
    ∙ sym (c.number_in.ensures ∙ ap (λ (v : ℕ). number_in v c.in_ok-first.first) c.version-version.ensures.value) in
    let number = rw (← e.behind) at c.find_first_number.ensures in
    number ∙ sym (after_here c.args.memory.now c.loop-first.at c.args.number e.property read
    (same ∙ c.if-number_in-number.true)) ∙ c.loop-first.invariant

pub loop-first-preserved : goal.loop-first-preserved
loop-first-preserved c =
    let e = c.in_ok-end.ensures in
    let read = list_goes_on c.args.memory.now c.loop-first.at c.in_ok-first.first c.in_ok-end.end
    (sym c.in_ok-first.ensures.value) e in
    let same : e.property.number ≡ c.number_in.result = e.number
    ∙ sym (c.number_in.ensures ∙ ap (λ (v : ℕ). number_in v c.in_ok-first.first) c.version-version.ensures.value) in
    let other : e.property.number ≢ c.args.number = λ q. c.if-number_in-number.false (sym same ∙ q) in
    subst (λ (b : ℕ). number_after_at c.args.memory.now b c.args.number ≡ number_after_at c.args.memory.now
    c.args.address c.args.number) e.behind
    (sym (after_next c.args.memory.now c.loop-first.at c.args.number e.property read other) ∙ c.loop-first.invariant)

pub loop-first-smaller : goal.loop-first-smaller
loop-first-smaller c = less_left c.args.memory.now c.loop-first.at c.in_ok-first.first c.in_ok-end.end
    (sym c.in_ok-first.ensures.value) c.in_ok-end.ensures
