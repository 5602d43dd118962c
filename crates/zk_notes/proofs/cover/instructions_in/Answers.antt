use Rattle.zk_notes.specs.Marks.{decoded_of}
use Rattle.zk_notes.proofs.LineLoops.{picked_more}
use Rattle.zk_notes.proofs.cover.instructions_in.Goals as goal

pub loop-fact-preserved : goal.loop-fact-preserved
loop-fact-preserved c = picked_more (decoded_of c.args.facts.now.memory.now) c.args.facts.now.list.now
    c.loop-fact.fact-index _ _ _ _
    c.loop-fact-test.true c.loop-fact.invariant c.decoded_of.ensures c.in_ok-push_found.ensures
