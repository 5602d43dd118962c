use Rattle.zk_inspect.proofs.Searching.{expanded_by, grows_twice}
use Rattle.zk_inspect.proofs.reach.Search.follow.Goals as goal

pub returns-clause-grows : goal.returns-clause-grows
returns-clause-grows c =
    let two = grows_twice _ _ _ c.in_ok-follow_behind.ensures.grows c.in_ok-follow_branch.ensures.grows in
    let three = grows_twice _ _ _ two c.in_ok-follow_jump.ensures.grows in
    grows_twice _ _ _ three c.in_ok-follow_call.ensures.grows

pub returns-clause-expanded : goal.returns-clause-expanded
returns-clause-expanded c =
    let jump = c.in_ok-follow_jump.ensures.grows in
    let call = c.in_ok-follow_call.ensures.grows in
    let behind = c.in_ok-follow_branch.ensures.grows in
    expanded_by c.args.memory.now _ c.args.address c.args.instr.now c.requires.stands
    (λ g. call.marks _ (jump.marks _ (behind.marks _ (c.in_ok-follow_behind.ensures.found g))))
    (λ b g. call.marks _ (jump.marks _ (c.in_ok-follow_branch.ensures.found b g)))
    (λ b g. call.marks _ (c.in_ok-follow_jump.ensures.found b g))
    c.in_ok-follow_call.ensures.found
