use Rattle.zk_text.proofs.Sweeping.{further_rest, last_rest, no_rest}
use Rattle.zk_text.proofs.sweep.text_rest.Goals as goal

pub returns-then-word-ge32768 : goal.returns-then-word-ge32768
returns-then-word-ge32768 g c =
    let expand = g.A.Abbreviations.stands c.args.memory.now in
    last_rest expand c.args.memory.now c.args.address c.args.word c.none.result _ c.requires.word
    c.if-word-ge32768.true c.word_before.ensures.rest (c.none.ensures expand c.args.memory.now)

pub returns-in-Some : goal.returns-in-Some
returns-in-Some g c =
    further_rest (g.A.Abbreviations.stands c.args.memory.now) c.args.memory.now c.args.address c.args.word
    c.args.further c.in-Some.rest _ c.requires.word c.if-word-ge32768.false c.in-Some.is c.requires.further
    c.word_before-in-Some.ensures.rest

pub returns-in-None : goal.returns-in-None
returns-in-None g c =
    no_rest (g.A.Abbreviations.stands c.args.memory.now) c.args.memory.now c.args.address c.args.word c.args.further
    c.requires.word c.if-word-ge32768.false c.in-None.is c.requires.further
