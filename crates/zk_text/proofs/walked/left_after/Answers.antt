use Rattle.std.proofs.Common.{◌∙◌, ◌+◌, ap, sym, arith, [], List, ℕ}
use Rattle.zk_text.specs.Walked.{run_at}
use Rattle.zk_text.proofs.Walking.{from_nothing, from_start, from_word, left_from, run_gone, run_last, run_next}
use Rattle.zk_text.proofs.Walking.{run_some}
use Rattle.zk_text.proofs.walked.left_after.Goals as goal

pub loop-i-init : goal.loop-i-init
loop-i-init c = record {
  rest = from_start c.args.memory.now c.args.address c.args.most;
  fewer = omega arith;
}

pub returns-in_default : goal.returns-in_default
returns-in_default c =
    let none = ap (λ (ws : List ℕ). left_from c.args.memory.now c.loop-i.held ws c.loop-i.left)
    (run_gone c.args.memory.now c.loop-i.at (sym c.in_default.ensures.value)) in
    sym (c.loop-i.invariant.rest ∙ none ∙ from_nothing c.args.memory.now c.loop-i.held c.loop-i.left)

pub returns-then-rest-eq0 : goal.returns-then-rest-eq0
returns-then-rest-eq0 c =
    let on = run_some c.args.memory.now c.loop-i.at c.in-Some.word (sym c.in-Some.ensures.value) in
    let word = from_word c.args.memory.now c.loop-i.held c.pass_word-next.result.0 c.in-Some.word on.0
    (run_at c.args.memory.now c.loop-i.at) c.loop-i.left c.saturating_sub.result c.pass_word-next.result.1 on.1
    c.saturating_sub.ensures (c.pass_word-next.ensures.left on.0) in
    omega (arith, c.loop-i.invariant.rest, word, c.if-rest-eq0.true)

pub returns-then-word-ge32768 : goal.returns-then-word-ge32768
returns-then-word-ge32768 c =
    let one = run_last c.args.memory.now c.loop-i.at c.in-Some.word (sym c.in-Some.ensures.value)
    c.if-word-ge32768.true in
    let word = from_word c.args.memory.now c.loop-i.held c.pass_word-next.result.0 c.in-Some.word []
    (run_at c.args.memory.now c.loop-i.at) c.loop-i.left c.saturating_sub.result c.pass_word-next.result.1 one
    c.saturating_sub.ensures (c.pass_word-next.ensures.left []) in
    sym (c.loop-i.invariant.rest ∙ word ∙ from_nothing c.args.memory.now c.pass_word-next.result.0
    c.pass_word-next.result.1)

pub loop-i-preserved : goal.loop-i-preserved
loop-i-preserved c =
    let next = run_next c.args.memory.now c.loop-i.at c.in-Some.word (sym c.in-Some.ensures.value)
    c.if-word-ge32768.false in
    record {
      rest = c.loop-i.invariant.rest ∙ from_word c.args.memory.now c.loop-i.held c.pass_word-next.result.0
          c.in-Some.word (run_at c.args.memory.now (c.loop-i.at + 2)) (run_at c.args.memory.now c.loop-i.at)
          c.loop-i.left c.saturating_sub.result c.pass_word-next.result.1 next c.saturating_sub.ensures
          (c.pass_word-next.ensures.left (run_at c.args.memory.now (c.loop-i.at + 2)));
      fewer =
          let less = c.pass_word-next.ensures.fewer in
          let one = c.saturating_sub.ensures in
          let some = c.if-rest-eq0.false in
          omega (arith, less, one, some, c.loop-i.invariant.fewer);
    }
