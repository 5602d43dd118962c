use Rattle.zk_vm.specs.Bounds.{AreInRange}
use Rattle.zk_program.proofs.suite.manner_by.Given as goal

abbrev pub invariant-loop-at : goal.invariant-loop-at
invariant-loop-at l = AreInRange l.manner.settings.limits
