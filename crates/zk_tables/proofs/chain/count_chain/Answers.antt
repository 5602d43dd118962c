use Rattle.std.proofs.Common.{◌≡◌, ◌-◌, arith, sym, ◌∙◌}
use Rattle.std.proofs.lemmas.Result.{err_from_is_err_and}
use Rattle.zk_tables.proofs.ChainSteps.{count_done, count_failed, count_next, chain_stops, chain_full, chain_full_bad}
use Rattle.zk_tables.proofs.chain.count_chain.Goals as goal

pub returns-then-at-eq0-clause-value : goal.returns-then-at-eq0-clause-value
returns-then-at-eq0-clause-value c =
    count_done c.args.memory.now c.args.most c.args.first (c.args.most - c.loop-i.i) c.loop-i.i c.loop-i.at
    c.loop-i.invariant.whole c.if-at-eq0.true

pub returns-in_err-at-clause-value : goal.returns-in_err-at-clause-value
returns-in_err-at-clause-value c =
    let p = err_from_is_err_and c.from_residual.result c.from_residual.ensures.1 in
    rw (p.1, p.2) (count_failed c.args.memory.now c.args.most c.args.first (c.args.most - c.loop-i.i) c.loop-i.i
    c.loop-i.at _ c.loop-i.invariant.whole (chain_stops c.args.memory.now c.args.most c.loop-i.i c.loop-i.at _
    c.loop-i-test.true c.if-at-eq0.false (sym c.in_err-at.ensures.value)))

pub loop-i-preserved : goal.loop-i-preserved
loop-i-preserved c =
    record {
      whole =
          sym (count_next c.args.memory.now c.args.most c.loop-i.i c.loop-i.at c.in_ok-at.at c.loop-i-test.true
          c.if-at-eq0.false (sym c.in_ok-at.ensures.value)) ∙ c.loop-i.invariant.whole;
      counted = omega (arith, c.in_ok-at.ensures.counted, c.loop-i.invariant.counted);
    }

pub returns-then-at-eq0-2-clause-value : goal.returns-then-at-eq0-2-clause-value
returns-then-at-eq0-2-clause-value c =
    let all : c.loop-i.i ≡ c.args.most = omega (arith, c.loop-i-test.false, c.loop-i.auto.i-end) in
    rw all at (count_done c.args.memory.now c.args.most c.args.first (c.args.most - c.loop-i.i) c.loop-i.i
    c.loop-i.at c.loop-i.invariant.whole c.if-at-eq0-2.true)

pub returns-in_err-entry-clause-value : goal.returns-in_err-entry-clause-value
returns-in_err-entry-clause-value c =
    let p = err_from_is_err_and c.from_residual-in_err-entry.result c.from_residual-in_err-entry.ensures.1 in
    rw (p.1, p.2) (count_failed c.args.memory.now c.args.most c.args.first (c.args.most - c.loop-i.i) c.loop-i.i
    c.loop-i.at _ c.loop-i.invariant.whole (chain_full_bad c.args.memory.now c.args.most c.loop-i.i
    c.loop-i.at _ c.loop-i-test.false c.if-at-eq0-2.false (sym c.in_err-entry.ensures.value)))

pub returns-clause-value : goal.returns-clause-value
returns-clause-value c = count_failed c.args.memory.now c.args.most c.args.first (c.args.most - c.loop-i.i)
    c.loop-i.i c.loop-i.at _ c.loop-i.invariant.whole (chain_full c.args.memory.now c.args.most c.loop-i.i
    c.loop-i.at _ c.loop-i-test.false c.if-at-eq0-2.false (sym c.in_ok-entry.ensures.value))
