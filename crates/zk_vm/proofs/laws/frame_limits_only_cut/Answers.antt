use Rattle.zk_vm.proofs.guards.GreaterRoom.{frame_limits_only_cut}
use Rattle.zk_vm.proofs.laws.frame_limits_only_cut.Goals as goal

pub returns : goal.returns
returns c = frame_limits_only_cut
