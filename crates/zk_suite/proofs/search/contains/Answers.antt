use Rattle.std.specs.List.{starts_with}
use Rattle.std.proofs.Common.{◌≡◌, ◌-◌, ◌==◌, true, length, take, drop, refl, arith, rules}
use Rattle.std.proofs.lemmas.List.{take_rest}
use Rattle.zk_suite.proofs.Findings.{occurs_at, occurs_nowhere}
use Rattle.zk_suite.proofs.search.contains.Goals as goal

pub returns-then-starts_with : goal.returns-then-starts_with
returns-then-starts_with c =
    let bytes = c.args.bytes.now in
    let here : starts_with ◌==◌ (take (length bytes - c.loop-at.at) (drop c.loop-at.at bytes))
    c.args.text.now ≡ true = search rules in
    (λ _. occurs_at c.args.text.now bytes c.loop-at.at (rw (take_rest bytes c.loop-at.at) at here), λ _. refl)

pub returns : goal.returns
returns c =
    let none = occurs_nowhere c.args.text.now c.args.bytes.now
    (λ i low. c.loop-at.invariant i (omega (arith, low, c.loop-at-test.false))) in
    (λ no. absurd cc, λ some. absurd (none some))
