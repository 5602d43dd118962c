use Rattle.zk_term.proofs.guards.KeptCursors.{splits_empty_the_past}
use Rattle.zk_term.proofs.laws.splits_empty_the_past.Goals as goal

pub returns : goal.returns
returns c = splits_empty_the_past
