use Rattle.std.proofs.Common.{sym, subst, arith}
use Rattle.std.proofs.lemmas.Grind.{common_steps}
use Rattle.zk_text.specs.Sweeps.{AreFaults}
use Rattle.zk_text.proofs.Sweeping.{more_faults}
use Rattle.zk_text.proofs.sweep.list_faults.Goals as goal

pub loop-number-preserved : goal.loop-number-preserved
loop-number-preserved c = record {
  faults = subst (AreFaults c.args.memory.now) (sym c.in_ok-push.ensures.items)
      (more_faults c.args.memory.now _ _ c.loop-number.number c.loop-number.invariant.faults
      c.loop-number.invariant.size c.fault.ensures.value);
  known = c.fault.ensures.holds;
  size = grind (arith, common_steps);
}
