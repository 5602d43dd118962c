use Rattle.zk_inspect.proofs.Searching.{begun}
use Rattle.zk_inspect.proofs.reach.Search.begun.Goals as goal

pub returns-clause-search : goal.returns-clause-search
returns-clause-search c = begun c.args.memory.now c.args.roots.now c.args.bound _ c.requires c.in_ok-marks.ensures
    c.in_ok-routines.ensures c.new.ensures
