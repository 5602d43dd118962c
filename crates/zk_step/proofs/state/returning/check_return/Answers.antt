use Rattle.std.proofs.Common.{◌≡◌, arith}
use Rattle.zk_step.specs.Routing.{with_line_start}
use Rattle.zk_step.proofs.Returns.{own_returns, global_returns, global_refused, refused_returns}
use Rattle.zk_step.proofs.state.returning.check_return.Goals as goal

pub returns-in-Err-clause-err : goal.returns-in-Err-clause-err
returns-in-Err-clause-err c =
    λ x b. refused_returns (with_line_start b c.args.game.now) x c.in-Err.refusal (c.in-Err.ensures x)

pub returns-in_default-clause-ok : goal.returns-in_default-clause-ok
returns-in_default-clause-ok c = λ x b. own_returns (with_line_start b c.args.game.now) x c.in-Ok.variable
    (c.in-Ok.ensures x) (λ n e. absurd (c.in_default.not-Some n e))

pub returns-then-number-lt16-clause-ok : goal.returns-then-number-lt16-clause-ok
returns-then-number-lt16-clause-ok c = λ x b. own_returns (with_line_start b c.args.game.now) x c.in-Ok.variable
    (c.in-Ok.ensures x) (λ n e. let same : c.in-Some.number ≡ n = cc in omega (arith, same, c.if-number-lt16.true))

pub returns-in-Ok-check_word-clause-ok : goal.returns-in-Ok-check_word-clause-ok
returns-in-Ok-check_word-clause-ok c = λ x b.
    let given = rw c.in-Some.is at c.in-Ok.ensures x in
    global_returns (with_line_start b c.args.game.now) x c.in-Some.number given c.if-number-lt16.false
    (rw (c.global.ensures c.if-number-lt16.false) at c.in-Ok-check_word.ensures.ok x)

pub returns-in-Err-check_word-clause-err : goal.returns-in-Err-check_word-clause-err
returns-in-Err-check_word-clause-err c = λ x b.
    let given = rw c.in-Some.is at c.in-Ok.ensures x in
    global_refused (with_line_start b c.args.game.now) x c.in-Some.number c.in-Err-check_word.fault given
    c.if-number-lt16.false (rw (c.global.ensures c.if-number-lt16.false) at c.in-Err-check_word.ensures.err x)
