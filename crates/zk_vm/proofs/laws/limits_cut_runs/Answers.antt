use Rattle.zk_vm.proofs.guards.Cuts.{limits_cut_runs}
use Rattle.zk_vm.proofs.laws.limits_cut_runs.Goals as goal

pub returns : goal.returns
returns c = limits_cut_runs
