use Rattle.std.proofs.Common.{map, take}
use Rattle.zk_inspect.specs.Listing.{lying_routine}
use Rattle.zk_inspect.proofs.reach.disassembly.list_lying_routines.Given as goal

abbrev pub invariant-loop-routine : goal.invariant-loop-routine
invariant-loop-routine g l =
    g.F.FactWriter.wrote l.fn.facts l.facts (map (lying_routine l.whole.reached) (take l.routine-index l.routines))
