use Rattle.zk_inspect.proofs.Searching.{is_code}
use Rattle.zk_inspect.proofs.reach.reach_from.Goals as goal

pub returns : goal.returns
returns c = is_code c.args.memory.now c.args.roots.now c.args.named.now c.in_ok-search.search _ _
    c.in_ok-search.ensures.search c.mark_routines.ensures.exact c.in_ok-addresses.ensures c.in_ok-routines.ensures
