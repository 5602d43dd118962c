use Rattle.zk_vm.proofs.guards.Dividing.{parts_join}
use Rattle.zk_vm.proofs.laws.parts_join.Goals as goal

pub returns : goal.returns
returns c = parts_join
