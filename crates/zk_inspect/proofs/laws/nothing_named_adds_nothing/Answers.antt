use Rattle.zk_inspect.proofs.guards.NothingNamed.{nothing_named_adds_nothing}
use Rattle.zk_inspect.proofs.laws.nothing_named_adds_nothing.Goals as goal

pub returns : goal.returns
returns c = nothing_named_adds_nothing
