use Rattle.zk_inspect.proofs.AllNumbers.{all_found}
use Rattle.zk_inspect.proofs.check.find_all.Goals as goal

pub returns : goal.returns
returns c = all_found c.args.memory.now _ _ c.new-all.ensures.items c.in_ok-add_all.ensures
