use Rattle.zk_notes.specs.Marks.{routine_of}
use Rattle.zk_notes.proofs.LineLoops.{picked_more}
use Rattle.zk_notes.proofs.cover.routines_in.Goals as goal

pub loop-fact-preserved : goal.loop-fact-preserved
loop-fact-preserved c = picked_more routine_of c.args.facts.now c.loop-fact.fact-index _ _ _ _
    c.loop-fact-test.true c.loop-fact.invariant c.routine_of.ensures c.in_ok-push_found.ensures
