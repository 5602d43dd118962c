use Rattle.zk_notes.specs.Calls.{listed_routine}
use Rattle.zk_notes.proofs.LineLoops.{picked_more}
use Rattle.zk_notes.proofs.calls.listed_routines.Goals as goal

pub loop-fact-preserved : goal.loop-fact-preserved
loop-fact-preserved c = picked_more listed_routine c.args.facts.now c.loop-fact.fact-index _ _ _ _
    c.loop-fact-test.true c.loop-fact.invariant c.routine_of.ensures c.in_ok-push_found.ensures
