use Rattle.std.proofs.Common.{arith}
use Rattle.zk_inspect.proofs.Inside.{reached_behind, behind_inside}
use Rattle.zk_inspect.proofs.reach.Search.follow_behind.Goals as goal

pub find-requires-clause-reached : goal.find-requires-clause-reached
find-requires-clause-reached c = reached_behind c.args.memory.now c.args.roots.now c.args.address c.args.instr.now
    _ c.requires.reached c.requires.stands cc

pub find-requires-clause-within : goal.find-requires-clause-within
find-requires-clause-within c = let le = behind_inside c.args.memory.now c.args.address c.args.instr.now _
    c.requires.stands in omega (arith, c.requires.search.size)
