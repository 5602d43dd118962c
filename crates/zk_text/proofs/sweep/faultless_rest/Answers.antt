use Rattle.zk_text.specs.Meaning.{abbreviation}
use Rattle.zk_text.proofs.Faultless.{faultless_further, faultless_last}
use Rattle.zk_text.proofs.sweep.faultless_rest.Goals as goal

pub returns-then-word-ge32768 : goal.returns-then-word-ge32768
returns-then-word-ge32768 c = faultless_last c.args.memory.now c.args.address c.args.word _ c.requires.faultless
    c.requires.word c.if-word-ge32768.true (c.none.ensures (abbreviation c.args.memory.now) c.args.memory.now)

pub returns : goal.returns
returns c = faultless_further c.args.memory.now c.args.address c.args.word c.args.further c.requires.faultless
    c.requires.word c.if-word-ge32768.false c.requires.further
