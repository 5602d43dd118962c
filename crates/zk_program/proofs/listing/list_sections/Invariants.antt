use Rattle.std.proofs.Common.{take}
use Rattle.zk_inspect.specs.Facts.{GaveSome}
use Rattle.zk_program.specs.Listing.{AreSections}
use Rattle.zk_program.proofs.listing.list_sections.Given as goal

abbrev pub invariant-loop-section : goal.invariant-loop-section
invariant-loop-section g l = GaveSome (AreSections (take l.section-index l.sections) l.fn.memory)
    g.F.FactWriter.wrote l.fn.facts l.facts
