use Rattle.zk_vm.proofs.guards.Within.{runs_stay_within}
use Rattle.zk_vm.proofs.laws.runs_stay_within.Goals as goal

pub returns : goal.returns
returns c = runs_stay_within
