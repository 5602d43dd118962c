use Rattle.zk_inspect.proofs.TextMarks.{texts_marked, texts_none}
use Rattle.zk_inspect.proofs.check.texts.mark_texts.Goals as goal

pub returns-in-Ok-clause-texts : goal.returns-in-Ok-clause-texts
returns-in-Ok-clause-texts c = texts_marked c.args.memory.now c.args.address c.in-Ok.instr _ c.in-Ok.ensures.found
    (λ t e. c.mark_addressed.ensures.keeps t (c.mark_inline.ensures.marked t e)) c.mark_addressed.ensures.marked

pub returns-in-Err-clause-texts : goal.returns-in-Err-clause-texts
returns-in-Err-clause-texts c =
    texts_none c.args.memory.now c.args.address _ (λ i b at. let e = (c.in-Err.ensures.only i b at).0 in absurd cc)
