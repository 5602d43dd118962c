use Rattle.std.proofs.Common.{arith, sym}
use Rattle.zk_inspect.proofs.Inside.{reached_branch, branch_inside}
use Rattle.zk_inspect.proofs.reach.Search.follow_branch.Goals as goal

pub find-requires-clause-reached : goal.find-requires-clause-reached
find-requires-clause-reached c = reached_branch c.args.memory.now c.args.roots.now c.args.address c.args.instr.now
    _ _ c.requires.reached c.requires.stands (sym c.in-Some.ensures)

pub find-requires-clause-within : goal.find-requires-clause-within
find-requires-clause-within c = let lt = branch_inside c.args.memory.now c.args.address c.args.instr.now _ _
    c.requires.stands (sym c.in-Some.ensures) in omega (arith, c.requires.search.size)
