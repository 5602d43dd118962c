use Rattle.std.proofs.Common.{take}
use Rattle.std.specs.List.{flat_map}
use Rattle.zk_notes.specs.Findings.{explained}
use Rattle.zk_notes.proofs.findings.write_all.Given as goal

abbrev pub invariant-loop-fact : goal.invariant-loop-fact
invariant-loop-fact g l =
    g.P.LineWriter.wrote l.fn.out l.out (flat_map (explained l.facts.memory.now) (take l.fact-index l.facts.list.now))
