use Rattle.zk_vm.proofs.guards.LogLimits.{step_limit_only_cuts}
use Rattle.zk_vm.proofs.laws.step_limit_only_cuts.Goals as goal

pub returns : goal.returns
returns c = step_limit_only_cuts
