use Rattle.std.proofs.Common.{arith, ◌∙◌, ◌+◌, sym}
use Rattle.zk_inform.proofs.Ends.{class_on, class_other}
use Rattle.zk_inform.proofs.table.class_end.Goals as goal

pub returns-then-class-objects-clause-value : goal.returns-then-class-objects-clause-value
returns-then-class-objects-clause-value c =
    sym (class_other c.args.memory.now c.args.objects (c.args.objects + 1) c.loop-i._i c.loop-i.at c.in-Ok.class
    (omega arith) (sym c.in-Ok.ensures) c.if-class-eq0.false c.if-class-objects.true) ∙ c.loop-i.invariant.left

pub loop-i-preserved : goal.loop-i-preserved
loop-i-preserved c = record {
  left = sym (class_on c.args.memory.now c.args.objects (c.args.objects + 1) c.loop-i._i c.loop-i.at c.in-Ok.class
      (omega arith) (sym c.in-Ok.ensures) c.if-class-eq0.false c.if-class-objects.false) ∙ c.loop-i.invariant.left;
  near = omega (arith, c.loop-i.invariant.near);
}
