use Rattle.std.proofs.Common.{map, take}
use Rattle.zk_inspect.specs.declared.fact.Fact.TheVariants as fact
use Rattle.zk_inspect.proofs.reach.disassembly.list_instructions.Given as goal

abbrev pub invariant-loop-address : goal.invariant-loop-address
invariant-loop-address g l =
    g.F.FactWriter.wrote l.fn.facts l.facts (map fact.Instruction (take l.address-index l.addresses))
