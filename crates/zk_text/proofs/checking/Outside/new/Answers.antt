use Rattle.zk_text.proofs.Sweeping.{none_known}
use Rattle.zk_text.proofs.checking.Outside.new.Goals as goal

pub returns : goal.returns
returns c = λ m. none_known m 96
