use Rattle.std.proofs.Common.{take}
use Rattle.std.specs.List.{flat_map}
use Rattle.std.specs.List.Sorted.{IsNonDecreasing}
use Rattle.zk_notes.specs.Marks.{marked_fact}
use Rattle.zk_notes.proofs.cover.Coverage.write_all.Given as goal

abbrev pub invariant-loop-fact : goal.invariant-loop-fact
invariant-loop-fact g l =
    IsNonDecreasing l.self.covered.now → g.P.LineWriter.wrote l.fn.out l.out
    (flat_map (marked_fact l.notes l.facts.memory.now l.self.covered.now l.self.instructions.now
    l.self.routines.now) (take l.fact-index l.facts.list.now))
