use Rattle.zk_vm.proofs.Logs.{logs_join}
use Rattle.zk_vm.proofs.laws.logs_join.Goals as goal

pub returns : goal.returns
returns c = logs_join
