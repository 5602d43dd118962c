use Rattle.std.proofs.Common.{◌≡◌, ◌≢◌, ◌<◌, ℕ, arith, sym, ap, subst, ◌∙◌}
use Rattle.std.proofs.lemmas.Result.{err_from_is_err_and}
use Rattle.zk_tables.specs.PropertyList.{found_at, number_in}
use Rattle.zk_tables.proofs.ListEnds.{list_ends, list_fails, list_goes_on, list_unread, less_left}
use Rattle.zk_tables.proofs.ListSteps.{found_next, found_end, found_stops, found_here, found_bad, list_below}
use Rattle.zk_tables.proofs.lists.find.Goals as goal

pub returns-in_err-first-clause-value : goal.returns-in_err-first-clause-value
returns-in_err-first-clause-value c =
    let p = err_from_is_err_and c.from_residual.result c.from_residual.ensures.1 in
    rw (p.1, p.2) (sym (found_stops c.args.memory.now c.loop-first.at c.args.number _
    (list_unread c.args.memory.now c.loop-first.at _ (sym c.in_err-first.ensures.value))) ∙ c.loop-first.invariant)

pub returns-then-first-eq0-clause-value : goal.returns-then-first-eq0-clause-value
returns-then-first-eq0-clause-value c =
    let read = list_ends c.args.memory.now c.loop-first.at c.in_ok-first.first (sym c.in_ok-first.ensures.value)
    c.if-first-eq0.true in
    sym (found_end c.args.memory.now c.loop-first.at c.args.number read) ∙ c.loop-first.invariant

pub returns-in_err-end-clause-value : goal.returns-in_err-end-clause-value
returns-in_err-end-clause-value c =
    let p = err_from_is_err_and c.from_residual-in_err-end.result c.from_residual-in_err-end.ensures.1 in
    rw (p.1, p.2) (sym (found_stops c.args.memory.now c.loop-first.at c.args.number _
    (list_fails c.args.memory.now c.loop-first.at c.in_ok-first.first _ (sym c.in_ok-first.ensures.value)
    c.in_err-end.ensures)) ∙ c.loop-first.invariant)

pub returns-in_err-check_list-clause-value : goal.returns-in_err-check_list-clause-value
returns-in_err-check_list-clause-value c =
    let p = err_from_is_err_and c.from_residual-in_err-check_list.result c.from_residual-in_err-check_list.ensures.1 in
    let e = c.in_ok-end.ensures in
    let read = list_goes_on c.args.memory.now c.loop-first.at c.in_ok-first.first c.in_ok-end.end
    (sym c.in_ok-first.ensures.value) e in
    let bad = rw (← e.behind) at c.in_err-check_list.ensures in
    rw (p.1, p.2) (sym (found_bad c.args.memory.now c.loop-first.at c.args.number e.property _ read bad)
    ∙ c.loop-first.invariant)

pub returns-then-number_in-number-clause-value : goal.returns-then-number_in-number-clause-value
returns-then-number_in-number-clause-value c =
    let e = c.in_ok-end.ensures in
    let read = list_goes_on c.args.memory.now c.loop-first.at c.in_ok-first.first c.in_ok-end.end
    (sym c.in_ok-first.ensures.value) e in
    let same : e.property.number ≡ c.number_in.result = e.number
    ∙ sym (c.number_in.ensures ∙ ap (λ (v : ℕ). number_in v c.in_ok-first.first) c.version-version.ensures.value) in
    let good = rw (← e.behind) at c.in_ok-check_list.ensures in
    c.read_property_by.ensures.value ∙ e.read
    ∙ sym (found_here c.args.memory.now c.loop-first.at c.args.number e.property read
    (same ∙ c.if-number_in-number.true) good) ∙ c.loop-first.invariant

pub returns-then-number_in-number-clause-bound : goal.returns-then-number_in-number-clause-bound
returns-then-number_in-number-clause-bound c =
    let e = c.in_ok-end.ensures in
    let below = list_below c.args.memory.now c.in_ok-end.end c.in_ok-check_list.ensures in
    let behind = e.behind in
    let near : e.property.address < 65536 = omega arith in
    rw (c.read_property_by.ensures.value, e.read) near

pub loop-first-preserved : goal.loop-first-preserved
loop-first-preserved c =
    let e = c.in_ok-end.ensures in
    let read = list_goes_on c.args.memory.now c.loop-first.at c.in_ok-first.first c.in_ok-end.end
    (sym c.in_ok-first.ensures.value) e in
    let same : e.property.number ≡ c.number_in.result = e.number
    ∙ sym (c.number_in.ensures ∙ ap (λ (v : ℕ). number_in v c.in_ok-first.first) c.version-version.ensures.value) in
    let other : e.property.number ≢ c.args.number = λ q. c.if-number_in-number.false (sym same ∙ q) in
    subst (λ (b : ℕ). found_at c.args.memory.now b c.args.number ≡ found_at c.args.memory.now c.args.address
    c.args.number) e.behind (sym (found_next c.args.memory.now c.loop-first.at c.args.number e.property read
    other) ∙ c.loop-first.invariant)

pub loop-first-smaller : goal.loop-first-smaller
loop-first-smaller c = less_left c.args.memory.now c.loop-first.at c.in_ok-first.first c.in_ok-end.end
    (sym c.in_ok-first.ensures.value) c.in_ok-end.ensures
