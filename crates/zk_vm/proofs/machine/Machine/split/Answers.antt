use Rattle.zk_term.specs.Windows.{split}
use Rattle.zk_vm.proofs.Answering.{windows_changed}
use Rattle.zk_vm.proofs.machine.Machine.split.Goals as goal

pub invariant_of-self : goal.invariant_of-self
invariant_of-self c =
    rw c.split.ensures (windows_changed c.self.inside
    (split c.version.result c.args.lines c.self.inside.game.windows) c.self.invariant)
