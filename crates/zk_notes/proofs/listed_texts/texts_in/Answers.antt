use Rattle.std.proofs.Common.{refl}
use Rattle.zk_notes.specs.ListedTexts.{text_of}
use Rattle.zk_notes.proofs.LineLoops.{picked_more}
use Rattle.zk_notes.proofs.listed_texts.texts_in.Goals as goal

pub loop-fact-preserved : goal.loop-fact-preserved
loop-fact-preserved c = picked_more (text_of c.args.facts.now.memory.now) c.args.facts.now.list.now
    c.loop-fact.fact-index _ _ _ _
    c.loop-fact-test.true c.loop-fact.invariant refl c.in_ok-push_text.ensures
