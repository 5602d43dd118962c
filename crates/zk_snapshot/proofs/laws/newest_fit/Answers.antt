use Rattle.zk_snapshot.proofs.Longest.{fits_newest}
use Rattle.zk_snapshot.proofs.laws.newest_fit.Goals as goal

pub returns : goal.returns
returns c = λ file states. fits_newest file states
