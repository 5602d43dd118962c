use Rattle.std.proofs.Common.{ap}
use Rattle.zk_inspect.proofs.Besides.{if_beside}
use Rattle.zk_inspect.proofs.whole.lie_beside.Goals as goal

pub returns : goal.returns
returns c =
    if_beside c.args.memory.now c.args.routines.now c.header-first.result.first_instruction _ _ _ _ c.list.result
    (ap (λ h. h.first_instruction) c.header-first.ensures) c.in_ok-marks.ensures.none
    c.mark_routines.ensures.exact c.mark_neighbour.ensures.exact c.mark_all_next.ensures.exact c.list.ensures
