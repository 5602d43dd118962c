use Rattle.std.proofs.Common.{◌≡◌, ◌∙◌, ℕ, ◌^◌, List, get_or, map, subst, ap, arith}
use Rattle.zk_inspect.specs.Siblings.{IsAhead}
use Rattle.zk_inspect.proofs.FarSiblings.{ahead_power}
use Rattle.zk_inspect.proofs.check.siblings.list_far_siblings.Goals as goal

pub loop-turn-init : goal.loop-turn-init
loop-turn-init c = c.in_ok-list.ensures

pub loop-turn-preserved : goal.loop-turn-preserved
loop-turn-preserved c = ahead_power c.args.memory.now c.loop-turn._turn c.loop-turn.list.items
    c.in_ok-list-2.list.items c.loop-turn.invariant (let e = c.in_ok-list-2.ensures in
    let v = c.as_slice.ensures.value in e ∙ ap (λ (xs : List ℕ). map (λ o. get_or xs o 0) xs) v)

pub returns : goal.returns
returns c =
    let a = c.loop-turn-test.false in
    let b = c.loop-turn.auto._turn-end in
    let e : c.loop-turn._turn ≡ 16 = omega arith in
    subst (λ (n : ℕ). IsAhead c.args.memory.now (2 ^ n) c.loop-turn.list.items) e c.loop-turn.invariant
