use Rattle.std.proofs.Common.{ap}
use Rattle.zk_inspect.proofs.Searching.{if_reachable}
use Rattle.zk_inspect.proofs.reach.reach.Goals as goal

pub returns : goal.returns
returns c = if_reachable c.args.memory.now c.reach_from.result c.header-first.result.first_instruction
    (ap (λ h. h.first_instruction) c.header-first.ensures) c.reach_from.ensures
