use Rattle.std.proofs.Common.{◌≡◌, ◌∙◌, ◌-◌, ℕ, take, ap, sym, arith}
use Rattle.zk_save.specs.States.{states_in}
use Rattle.zk_snapshot.specs.Snapshots.{fitting}
use Rattle.zk_snapshot.proofs.Fitting.{many, fit_more, fit_stop, fit_end}
use Rattle.zk_snapshot.proofs.states.fitting.Goals as goal

pub returns-then-size-left-clause-fit : goal.returns-then-size-left-clause-fit
returns-then-size-left-clause-fit c =
    let file = c.args.memory.now.file in
    let ws = states_in file c.args.undo.now in
    let size = many file c.args.undo.now in
    let n = c.len-len.result - 1 - c.loop-count.count in
    fit_stop file ws (fitting file c.args.most ws) c.loop-count.count n c.loop-count.left c.state_len-size.result
    (omega (arith, size, c.loop-count-test.true, c.len-len.ensures.value))
    (omega (arith, size, c.len-len.ensures.value)) c.state_len-size.ensures.len c.if-size-left.true
    c.loop-count.invariant.fit

pub loop-count-preserved : goal.loop-count-preserved
loop-count-preserved c =
    let file = c.args.memory.now.file in
    let ws = states_in file c.args.undo.now in
    let size = many file c.args.undo.now in
    let n = c.len-len.result - 1 - c.loop-count.count in
    record {
      fit = fit_more file ws (fitting file c.args.most ws) c.loop-count.count n c.loop-count.left
          c.state_len-size.result (omega (arith, size, c.loop-count-test.true, c.len-len.ensures.value))
          (omega (arith, size, c.len-len.ensures.value)) c.state_len-size.ensures.len c.if-size-left.false
          c.loop-count.invariant.fit;
      bounds = c.state_len-size.ensures.bounds ∙ c.loop-count.invariant.bounds;
      are_of = c.state_len-size.ensures.are_of;
    }

pub returns-clause-fit : goal.returns-clause-fit
returns-clause-fit c =
    let file = c.args.memory.now.file in
    let ws = states_in file c.args.undo.now in
    let all : c.loop-count.count ≡ c.len-len.result = omega arith in
    ap (λ (k : ℕ). take k ws) (sym all) ∙ fit_end file ws (fitting file c.args.most ws) c.loop-count.count
    c.loop-count.left (omega (
      arith,
      many file c.args.undo.now,
      c.len-len.ensures.value,
      c.loop-count-test.false,
    )) c.loop-count.invariant.fit
