use Rattle.std.proofs.Common.{arith}
use Rattle.zk_code.proofs.Longer.{ends_inside}
use Rattle.zk_snapshot.proofs.opening.waiting_machine.Goals as goal

pub of_parts-requires-clause-inside : goal.of_parts-requires-clause-inside
of_parts-requires-clause-inside c =
    let ends = ends_inside c.args.game.memory c.args.front.place.pc c.in-Ok.instruction c.in-Ok.instruction.next
    c.in-Ok.ensures.found in
    omega (arith, ends.0)
