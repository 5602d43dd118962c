use Rattle.zk_system.proofs.NoFile.{nothing_is_kept}
use Rattle.zk_system.proofs.save_file.nothing_is_kept_without_a_file.Goals as goal

pub returns : goal.returns
returns c = nothing_is_kept
