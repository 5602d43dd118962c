use Rattle.zk_notes.specs.Calls.{call_in}
use Rattle.zk_notes.proofs.LineLoops.{picked_more}
use Rattle.zk_notes.proofs.calls.calls_of.Goals as goal

pub loop-fact-preserved : goal.loop-fact-preserved
loop-fact-preserved c = picked_more (call_in c.args.facts.now.memory.now) c.args.facts.now.list.now
    c.loop-fact.fact-index _ _ _ _
    c.loop-fact-test.true c.loop-fact.invariant c.call_in.ensures c.in_ok-push_found.ensures
