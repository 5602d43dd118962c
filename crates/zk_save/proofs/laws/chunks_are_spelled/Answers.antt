use Rattle.zk_save.proofs.guards.SavedLoads.{chunks_again}
use Rattle.zk_save.proofs.guards.Spellings.{reads_all, reads_spelled}
use Rattle.zk_save.proofs.laws.chunks_are_spelled.Goals as goal

pub returns : goal.returns
returns c = record { written = chunks_again; all = reads_all; spelled = reads_spelled }
