use Rattle.zk_vm.proofs.guards.Dividing.{parts_only_divide}
use Rattle.zk_vm.proofs.laws.parts_only_divide.Goals as goal

pub returns : goal.returns
returns c = parts_only_divide
