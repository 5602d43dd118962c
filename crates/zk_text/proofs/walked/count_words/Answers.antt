use Rattle.std.proofs.Common.{ap, sym, arith, length}
use Rattle.zk_text.proofs.Walking.{run_gone, run_last, run_next}
use Rattle.zk_text.proofs.walked.count_words.Goals as goal

pub returns-in_default : goal.returns-in_default
returns-in_default c =
    let none = ap length (run_gone c.args.memory.now c.loop-count.at (sym c.in_default.ensures.value)) in
    omega (arith, c.loop-count.invariant, none, c.loop-count-test.true)

pub returns-then-word-ge32768 : goal.returns-then-word-ge32768
returns-then-word-ge32768 c =
    let one = ap length (run_last c.args.memory.now c.loop-count.at c.in-Some.word (sym c.in-Some.ensures.value)
    c.if-word-ge32768.true) in
    omega (arith, c.loop-count.invariant, one, c.loop-count-test.true)

pub loop-count-preserved : goal.loop-count-preserved
loop-count-preserved c =
    let on = ap length (run_next c.args.memory.now c.loop-count.at c.in-Some.word (sym c.in-Some.ensures.value)
    c.if-word-ge32768.false) in
    omega (arith, c.loop-count.invariant, on)
