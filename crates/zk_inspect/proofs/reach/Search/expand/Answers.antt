use Rattle.zk_inspect.proofs.Searching.{expanded_none}
use Rattle.zk_inspect.proofs.reach.Search.expand.Goals as goal

pub returns-in-Err-clause-expanded : goal.returns-in-Err-clause-expanded
returns-in-Err-clause-expanded c = expanded_none c.args.memory.now c.args.self.now c.args.address
    (λ i b at. let e = (c.in-Err.ensures.only i b at).0 in absurd cc)
