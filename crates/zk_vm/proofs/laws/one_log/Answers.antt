use Rattle.zk_vm.proofs.guards.Dividing.{one_log}
use Rattle.zk_vm.proofs.laws.one_log.Goals as goal

pub returns : goal.returns
returns c = one_log
