use Rattle.zk_vm.proofs.Sounds.{within_limits}
use Rattle.zk_vm.proofs.machine.Machine.is_within.Goals as goal

pub returns-clause-within : goal.returns-clause-within
returns-clause-within c =
    let few = rw c.len.ensures.value at c.len.ensures.few in
    rw (← c.self.view_is) (within_limits c.self.inside c.self.invariant few c.is_bounded.ensures)
