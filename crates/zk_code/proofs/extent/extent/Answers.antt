use Rattle.std.proofs.Common.{◌≡◌, ◌≤◌, ◌∙◌, arith, false, refl, sym, subst}
use Rattle.zk_code.specs.Reach.{goes_on}
use Rattle.zk_code.proofs.Longer.{ends_inside}
use Rattle.zk_code.proofs.Extents.{walk_begins, walk_on, walk_stops, walk_fails, walk_leaves}
use Rattle.zk_code.proofs.extent.extent.Goals as goal
use Rattle.zk_code.proofs.extent.extent.Goals.{else-not-goes_on-via-then-not-goes_on+else-past-instr}
use Rattle.zk_code.proofs.extent.extent.Goals.{else-not-goes_on-via-else-not-goes_on}

pub loop-step-init : goal.loop-step-init
loop-step-init c = record { walk = walk_begins c.args.memory.now c.args.start; on = omega arith }

pub returns-in_default-clause-none : goal.returns-in_default-clause-none
returns-in_default-clause-none c = λ _. walk_fails c.args.memory.now c.args.start c.loop-step.at c.loop-step.past
    c.loop-step.invariant.walk (λ i b s. absurd (let e = (c.in_default.ensures.only i b s).0 in cc))

pub returns-then-past-instr-clause-found : goal.returns-then-past-instr-clause-found
returns-then-past-instr-clause-found c =
    walk_stops c.args.memory.now c.args.start c.loop-step.at c.loop-step.past c.past_targets-past.result
    c.in-Ok.instr.next c.in-Ok.instr c.loop-step.invariant.walk c.in-Ok.ensures.found c.past_targets-past.ensures
    (sym c.if-not-goes_on.ensures) c.if-past-instr.true

pub loop-step-preserved : goal.loop-step-preserved
loop-step-preserved c =
    let after = ends_inside c.args.memory.now c.loop-step.at c.in-Ok.instr c.in-Ok.instr.next c.in-Ok.ensures.found in
    let goes : goes_on c.in-Ok.instr.opcode ≡ false → c.past_targets-past.result ≤ c.in-Ok.instr.next
    → ⊥ = elim c.else-not-goes_on.branch [
      | else-not-goes_on-via-then-not-goes_on+else-past-instr w ↦
          λ _ le. absurd (let lt = w.if-past-instr.false in omega arith)
      | else-not-goes_on-via-else-not-goes_on w ↦ λ stop _. absurd (let e = w.if-not-goes_on.ensures ∙ stop in cc)
    ] in
    record {
      walk = walk_on c.args.memory.now c.args.start c.loop-step.at c.loop-step.past c.past_targets-past.result
          c.in-Ok.instr.next c.in-Ok.instr c.loop-step.invariant.walk c.in-Ok.ensures.found
          c.past_targets-past.ensures goes;
      on = let k = after.0 in let j = c.loop-step.invariant.on in omega arith;
    }

pub returns-clause-none : goal.returns-clause-none
returns-clause-none c = λ _. walk_leaves c.args.memory.now c.args.start c.loop-step.at c.loop-step.past
    c.loop-step.invariant.walk (let e = c.len-step-end.ensures.value in let k = c.loop-step.invariant.on in
    let t = c.loop-step-test.false in omega arith)
