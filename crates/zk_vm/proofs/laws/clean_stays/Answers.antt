use Rattle.zk_vm.proofs.CleanRuns.{clean_stays}
use Rattle.zk_vm.proofs.laws.clean_stays.Goals as goal

pub returns : goal.returns
returns c = clean_stays
