use Rattle.std.proofs.Common.{◌≡◌, ℕ, ◌+◌, ◌-◌, arith, sym, ap, ◌∙◌}
use Rattle.zk_state.proofs.Unwinding.{without_newest, one_fewer}
use Rattle.zk_state.proofs.frames.Frames.unwind.Goals as goal

pub loop-i-preserved : goal.loop-i-preserved
loop-i-preserved c =
    let k = c.depth-depth.result - (c.loop-i._i + 1) in
    let e : k + 1 ≡ c.depth-depth.result - c.loop-i._i = omega arith in
    let one = one_fewer c.leave.result c.loop-i.self c.leave.new.self k (omega (arith, c.loop-i.invariant.long))
    c.leave.ensures in
    record {
      same = sym one.same ∙ ap (λ (n : ℕ). without_newest n c.loop-i.self) e ∙ c.loop-i.invariant.same;
      long = omega (arith, one.long, c.loop-i.invariant.long);
    }
