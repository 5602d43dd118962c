use Rattle.std.proofs.Common.{◌≡◌, ◌∙◌, ℕ, ap, sym, true, false, Some, Ok, nat_lt, arith}
use Rattle.std.proofs.lemmas.Bool.Decides.{nat_tests}
use Rattle.zk_mem.specs.Map.{cell_at}
use Rattle.zk_code.specs.Reading.{branch_here}
use Rattle.zk_step.specs.Resuming.{resumed}
use Rattle.zk_step.proofs.state.resuming.resume.Goals as goal

pub returns-in-Ok-clause-value : goal.returns-in-Ok-clause-value
unfolding resumed
returns-in-Ok-clause-value c =
    let early : nat_lt c.version.result 4 ≡ true = grind (arith, nat_tests) in
    let test : nat_lt c.args.game.now.memory.version 4 ≡ true = ap (λ (v : ℕ). nat_lt v 4)
    (sym c.version.ensures.value) ∙ early in
    let read : branch_here c.args.game.now.memory c.args.pc ≡ Ok (c.in-Ok.branch, c.in-Ok.next) =
    sym c.decode_branch.ensures.value ∙ c.in-Ok.is in
    rw (test, read) (rw c.continuation_after.ensures at c.lead.ensures.value)

pub returns-in-Some-clause-value : goal.returns-in-Some-clause-value
unfolding resumed
returns-in-Some-clause-value c =
    let later : nat_lt c.version.result 4 ≡ false = grind (arith, nat_tests) in
    let test : nat_lt c.args.game.now.memory.version 4 ≡ false = ap (λ (v : ℕ). nat_lt v 4)
    (sym c.version.ensures.value) ∙ later in
    let read : cell_at c.args.game.now.memory c.args.pc ≡ Some c.in-Some.variable = sym c.cell.ensures.value
    ∙ c.in-Some.is in
    rw (test, read) c.go_to.ensures.value
