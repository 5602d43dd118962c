use Rattle.std.proofs.Common.{map, take}
use Rattle.zk_inspect.specs.declared.fact.Fact.TheVariants as fact
use Rattle.zk_inspect.proofs.reach.disassembly.list_routines.Given as goal

abbrev pub invariant-loop-routine : goal.invariant-loop-routine
invariant-loop-routine g l =
    g.F.FactWriter.wrote l.fn.facts l.facts (map fact.Routine (take l.routine-index l.routines))
