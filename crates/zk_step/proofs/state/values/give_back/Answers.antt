use Rattle.std.proofs.Common.{◌≡◌, ◌∙◌, ◌-◌, ◌+◌, ℕ, suc, length, refl, ap, sym, arith}
use Rattle.zk_step.proofs.GivingBack.{after_operands, all_taken, bounded_fits, gives_back}
use Rattle.zk_step.proofs.state.values.give_back.Goals as goal

pub loop-k-init : goal.loop-k-init
loop-k-init c = record {
  value = λ found bounded taken.
      let all : c.len-count.result - 0 ≡ length c.args.operands.now = omega (arith, c.len-count.ensures.value) in
      rw all (sym (all_taken found c.args.game.now c.args.operands.now c.args.values.now taken));
  bounds = refl;
}

pub give_back_one-requires : goal.give_back_one-requires
give_back_one-requires c =
    let found = c.requires.found in
    let os = c.args.operands.now in
    let n = c.len-count.result - 1 - c.loop-k.k in
    let next : c.len-count.result - c.loop-k.k ≡ suc n = omega (arith, c.loop-k-test.true) in
    let here : c.loop-k.game ≡ after_operands (suc n) found os = c.loop-k.invariant.value found c.requires.bounded
    c.requires.operands ∙ ap (λ (i : ℕ). after_operands i found os) next in
    let back = gives_back found c.args.game.now os c.args.values.now n c.requires.operands
    (bounded_fits found.frames c.requires.bounded) (omega (arith, c.len-count.ensures.value, c.loop-k-test.true)) in
    rw (c.as_slice.ensures.value, c.get.ensures, here) back.fits

pub loop-k-preserved : goal.loop-k-preserved
loop-k-preserved c = record {
  value = λ found bounded taken.
      let os = c.args.operands.now in
      let n = c.len-count.result - 1 - c.loop-k.k in
      let next : c.len-count.result - c.loop-k.k ≡ suc n = omega (arith, c.loop-k-test.true) in
      let left : c.len-count.result - (c.loop-k.k + 1) ≡ n = omega (arith, c.loop-k-test.true) in
      let here : c.loop-k.game ≡ after_operands (suc n) found os = c.loop-k.invariant.value found bounded taken
      ∙ ap (λ (i : ℕ). after_operands i found os) next in
      let back = gives_back found c.args.game.now os c.args.values.now n taken (bounded_fits found.frames bounded)
      (omega (arith, c.len-count.ensures.value, c.loop-k-test.true)) in
      let new = rw (c.as_slice.ensures.value, c.get.ensures, here) at c.give_back_one.ensures.value in
      new ∙ back.is ∙ ap (λ (i : ℕ). after_operands i found os) (sym left);
  bounds = c.give_back_one.ensures.bounds ∙ c.loop-k.invariant.bounds;
}

pub returns-clause-value : goal.returns-clause-value
unfolding after_operands
returns-clause-value c = λ found bounded taken.
    let none : c.len-count.result - c.loop-k.k ≡ 0 = omega (arith, c.loop-k-test.false) in
    rw none at (c.loop-k.invariant.value found bounded taken)
