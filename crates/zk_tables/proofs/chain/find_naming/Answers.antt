use Rattle.std.proofs.Common.{◌-◌, arith, sym, ◌∙◌}
use Rattle.std.proofs.lemmas.Result.{err_from_is_err_and}
use Rattle.zk_tables.specs.Chain.{chain_from}
use Rattle.zk_tables.proofs.ChainSteps.{naming_start, naming_start_bad, naming_end, naming_next, naming_fault}
use Rattle.zk_tables.proofs.ChainSteps.{naming_here, chain_stops, chain_full, chain_full_bad, counted_chain}
use Rattle.zk_tables.proofs.ChainSteps.{uncounted_chain}
use Rattle.zk_tables.proofs.chain.find_naming.Goals as goal

pub returns-in_err-named-clause-value : goal.returns-in_err-named-clause-value
returns-in_err-named-clause-value c =
    let p = err_from_is_err_and c.from_residual.result c.from_residual.ensures.1 in
    rw (p.1, p.2) (sym (naming_start_bad c.args.memory.now c.args.parent c.args.object _
    (sym c.in_err-named.ensures.value)))

pub loop-i-init : goal.loop-i-init
loop-i-init c =
    record {
      rest = rw (c.count_entries-most.ensures, c.child_link-place.ensures)
          (naming_start c.args.memory.now c.args.parent c.args.object c.in_ok-named.named
          (sym c.in_ok-named.ensures.value));
      counted = omega (arith, c.in_ok-named.ensures.counted);
    }

pub returns-then-named-eq0-clause-value : goal.returns-then-named-eq0-clause-value
returns-then-named-eq0-clause-value c =
    sym (naming_end c.args.memory.now (c.count_entries-most.result - c.loop-i.i) c.loop-i.named c.args.object
    c.loop-i.place c.if-named-eq0.true) ∙ c.loop-i.invariant.rest

pub returns-in_err-count_chain-clause-value : goal.returns-in_err-count_chain-clause-value
returns-in_err-count_chain-clause-value c =
    let p = err_from_is_err_and c.from_residual-in_err-count_chain.result
    c.from_residual-in_err-count_chain.ensures.1 in
    rw (p.1, p.2) (sym (naming_fault c.args.memory.now (c.count_entries-most.result - c.loop-i.i) c.loop-i.named
    c.args.object c.loop-i.place _
    (uncounted_chain (chain_from c.args.memory.now (c.count_entries-most.result - c.loop-i.i) c.loop-i.named)
    _ c.in_err-count_chain.ensures.value)) ∙ c.loop-i.invariant.rest)

pub returns-then-named-object-clause-value : goal.returns-then-named-object-clause-value
returns-then-named-object-clause-value c =
    sym (naming_here c.args.memory.now c.count_entries-most.result c.loop-i.i c.loop-i.named c.args.object
    c.loop-i.place (omega arith) c.if-named-eq0.false c.if-named-object.true
    (counted_chain (chain_from c.args.memory.now (c.count_entries-most.result - c.loop-i.i) c.loop-i.named) _
    c.in_ok-count_chain.ensures.value)) ∙ c.loop-i.invariant.rest

pub returns-in_err-named-2-clause-value : goal.returns-in_err-named-2-clause-value
returns-in_err-named-2-clause-value c =
    let p = err_from_is_err_and c.from_residual-in_err-named-2.result c.from_residual-in_err-named-2.ensures.1 in
    rw (p.1, p.2) (sym (naming_fault c.args.memory.now (c.count_entries-most.result - c.loop-i.i) c.loop-i.named
    c.args.object c.loop-i.place _ (chain_stops c.args.memory.now c.count_entries-most.result c.loop-i.i
    c.loop-i.named _ (omega arith) c.if-named-eq0.false (sym c.in_err-named-2.ensures.value)))
    ∙ c.loop-i.invariant.rest)

pub loop-i-preserved : goal.loop-i-preserved
loop-i-preserved c =
    record {
      rest =
          rw c.sibling_link-place.ensures
          (sym (naming_next c.args.memory.now c.count_entries-most.result c.loop-i.i c.loop-i.named
          c.in_ok-named-2.named c.args.object c.loop-i.place c.loop-i-test.true c.if-named-eq0.false
          c.if-named-object.false (sym c.in_ok-named-2.ensures.value)) ∙ c.loop-i.invariant.rest);
      counted = omega (arith, c.in_ok-named-2.ensures.counted, c.loop-i.invariant.counted);
    }

pub returns-in_err-entry-clause-value : goal.returns-in_err-entry-clause-value
returns-in_err-entry-clause-value c =
    let p = err_from_is_err_and c.from_residual-in_err-entry.result c.from_residual-in_err-entry.ensures.1 in
    rw (p.1, p.2) (sym (naming_fault c.args.memory.now (c.count_entries-most.result - c.loop-i.i) c.loop-i.named
    c.args.object c.loop-i.place _ (chain_full_bad c.args.memory.now c.count_entries-most.result c.loop-i.i
    c.loop-i.named _ (omega arith) c.if-named-ne0.true (sym c.in_err-entry.ensures.value)))
    ∙ c.loop-i.invariant.rest)

pub returns-in_ok-entry-clause-value : goal.returns-in_ok-entry-clause-value
returns-in_ok-entry-clause-value c =
    sym (naming_fault c.args.memory.now (c.count_entries-most.result - c.loop-i.i) c.loop-i.named c.args.object
    c.loop-i.place _ (chain_full c.args.memory.now c.count_entries-most.result c.loop-i.i c.loop-i.named _
    (omega arith) c.if-named-ne0.true (sym c.in_ok-entry.ensures.value))) ∙ c.loop-i.invariant.rest

pub returns-else-named-ne0-clause-value : goal.returns-else-named-ne0-clause-value
returns-else-named-ne0-clause-value c =
    sym (naming_end c.args.memory.now (c.count_entries-most.result - c.loop-i.i) c.loop-i.named c.args.object
    c.loop-i.place c.if-named-ne0.false) ∙ c.loop-i.invariant.rest
