use Rattle.std.proofs.Common.{arith}
use Rattle.zk_inspect.proofs.reach.search_from.Goals as goal

pub find_roots-requires-clause-within : goal.find_roots-requires-clause-within
find_roots-requires-clause-within c =
    λ a h. let le = c.requires a h in let e = c.in_ok-search.ensures.size in omega arith
