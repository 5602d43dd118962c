use Rattle.zk_names.proofs.Walks.{node_is}
use Rattle.zk_names.proofs.section.section_at.Goals as goal

pub returns-clause-node : goal.returns-clause-node
returns-clause-node c = node_is c.args.elements.now c.args.at c.inside_of-inside.result.now c.inside_of-inside.ensures
