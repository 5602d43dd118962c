use Rattle.std.proofs.Common.{◌∙◌, ap, arith, length-append}
use Rattle.zk_coverage.proofs.Marks.{filled}
use Rattle.zk_coverage.specs.Lines.{state_at}
use Rattle.zk_coverage.proofs.lines.fill.Goals as goal

pub loop-preserved : goal.loop-preserved
loop-preserved c = record {
  top = omega arith;
  bound = grind (arith, length-append);
  long = grind (arith, length-append);
  same = λ k. ap (λ l. state_at l k) c.in_ok-push.ensures.items ∙ filled _ k ∙ c.loop.invariant.same k;
}
