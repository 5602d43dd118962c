use Rattle.zk_names.proofs.Walks.{inside_is}
use Rattle.zk_names.proofs.section.inside_of.Goals as goal

pub returns : goal.returns
returns c = inside_is c.args.depth c.args.behind.now c.count_deeper.result c.count_deeper.ensures.value
