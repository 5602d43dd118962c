use Rattle.zk_term.specs.Windows.{forgotten}
use Rattle.zk_vm.proofs.Answering.{windows_changed}
use Rattle.zk_vm.proofs.machine.Machine.forget_grid.Goals as goal

pub invariant_of-self : goal.invariant_of-self
invariant_of-self c =
    rw c.forget.ensures (windows_changed c.self.inside (forgotten c.self.inside.game.windows) c.self.invariant)
