use Rattle.std.proofs.Common.{◌≡◌, ◌∙◌, ℕ, List, Result, Ok, subst, sym}
use Rattle.zk_mem.specs.declared.fault.Fault.{Fault}
use Rattle.zk_step.specs.declared.state.game_state.GameState.{GameState}
use Rattle.zk_step.specs.Halves.{IsUnderWay}
use Rattle.zk_step.proofs.HalfDues.{ok_weaker, same_rest, shows_then}
use Rattle.zk_step.proofs.instruction.carry_out_part.Goals as goal

same_taken : (p q : GameState × List ℕ) → ◌≡◌ {A = Result (GameState × List ℕ) Fault} (Ok p) (Ok q) → p ≡ q
same_taken p q h = cc

pub go_on-requires-clause-way : goal.go_on-requires-clause-way
go_on-requires-clause-way g c =
    let half = rw c.in-Some.is at c.requires.half in
    let same = same_taken _ _ (sym half.operands ∙ c.in-Ok.ensures.value) in
    subst (λ (p : GameState × List ℕ). IsUnderWay p.0 c.args.i.now p.1 c.args.codes.now c.args.draft.now
    c.in-Some.half) same half.way

pub returns-clause-text : goal.returns-clause-text
returns-clause-text g c =
    let half = rw c.in-Some.is at c.requires.half in
    ok_weaker c.go_on.result _ _ _ (λ p h. shows_then g.S.Screen.shows c.args.screen.now c.go_on.new.screen
    c.args.i.now.operands c.args.game.now c.read_operands.new.game c.in-Ok.values _ _ p c.in-Ok.ensures.value
    (rw c.in-Some.is (same_rest c.args.i.now.operands c.args.game.now c.read_operands.new.game c.in-Ok.values
    c.in-Some.half.rest c.in-Ok.ensures.value)) h) c.go_on.ensures.text
