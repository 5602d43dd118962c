use Rattle.std.proofs.Common.{◌++◌, codes, take}
use Rattle.std.specs.List.{flat_map}
use Rattle.zk_inspect.specs.Lines.{fact_line}
use Rattle.zk_notes.proofs.lines.write_all.Given as goal

abbrev pub invariant-loop-fact : goal.invariant-loop-fact
invariant-loop-fact g l =
    g.P.LineWriter.wrote l.fn.out l.out (flat_map (λ f. fact_line l.notes l.facts.memory.now f ++ codes "\n")
    (take l.fact-index l.facts.list.now))
