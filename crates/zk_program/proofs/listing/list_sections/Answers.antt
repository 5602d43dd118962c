use Rattle.std.proofs.lemmas.List.{take_all}
use Rattle.zk_program.proofs.Listings.{sections_cut, sections_more}
use Rattle.zk_program.proofs.listing.list_sections.Goals as goal

pub loop-section-preserved : goal.loop-section-preserved
loop-section-preserved g c = sections_more g.F.FactWriter.wrote g.met.F.FactWriter.twice
    c.args.memory.now c.args.sections.now c.loop-section.section-index _ _ _ _ c.loop-section-test.true
    c.loop-section.invariant c.in-Ok.ensures

pub returns-in-Err : goal.returns-in-Err
returns-in-Err g c =
    sections_cut g.F.FactWriter.wrote g.met.F.FactWriter.twice _ _ _ _ _ c.loop-section.invariant c.in-Err.ensures

pub returns : goal.returns
returns g c =
    rw (take_all c.loop-section.section-index c.args.sections.now c.loop-section-test.false) at
    c.loop-section.invariant
