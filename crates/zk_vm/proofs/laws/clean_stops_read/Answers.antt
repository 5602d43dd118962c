use Rattle.zk_vm.proofs.CleanRuns.{clean_stops_read}
use Rattle.zk_vm.proofs.laws.clean_stops_read.Goals as goal

pub returns : goal.returns
returns c = clean_stops_read
