use Rattle.std.proofs.Common.{◌∙◌, arith, ap}
use Rattle.std.specs.Prelude.{is_some}
use Rattle.zk_inspect.proofs.Inside.{routine_inside}
use Rattle.zk_inspect.proofs.Searching.{start_of, one_marked}
use Rattle.zk_inspect.proofs.reach.mark_routine.Goals as goal

pub mark-requires : goal.mark-requires
mark-requires c =
    let start = start_of c.args.memory.now c.args.routine _
    (c.is_some.ensures ∙ ap is_some c.code_start.ensures.value) c.if-is_some.true in
    let lt = (routine_inside c.args.memory.now c.args.routine _ start.1).0 in
    omega (arith, c.requires)

pub returns-then-is_some-clause-exact : goal.returns-then-is_some-clause-exact
returns-then-is_some-clause-exact c =
    let start = start_of c.args.memory.now c.args.routine _
    (c.is_some.ensures ∙ ap is_some c.code_start.ensures.value) c.if-is_some.true in
    let lt = (routine_inside c.args.memory.now c.args.routine _ start.1).0 in
    one_marked c.args.memory.now c.args.routine c.args.marks.now _ start (omega (arith, c.requires)) c.mark.ensures
