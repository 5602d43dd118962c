use Rattle.zk_tables.proofs.ChainLaw.{children_are_chains}
use Rattle.zk_tables.proofs.laws.children_are_chains.Goals as goal

pub returns : goal.returns
returns c = children_are_chains
