use Rattle.std.proofs.Common.{arith}
use Rattle.zk_host.proofs.Naming.{nothing_named, of_few, of_many}
use Rattle.zk_host.proofs.name.collect.Goals as goal

pub returns-then-words_walked-le-MOST_WORDS : goal.returns-then-words_walked-le-MOST_WORDS
returns-then-words_walked-le-MOST_WORDS c = λ units e.
    rw (of_few c.args.memory.now c.args.address c.words_walked.result units c.words_walked.ensures
    c.if-words_walked-le-MOST_WORDS.true) (c.collect_first.ensures units e)

pub returns-else-words_walked-le-MOST_WORDS : goal.returns-else-words_walked-le-MOST_WORDS
returns-else-words_walked-le-MOST_WORDS c = λ units e.
    let many = c.if-words_walked-le-MOST_WORDS.false in
    rw (of_many c.args.memory.now c.args.address c.words_walked.result units c.words_walked.ensures
    (omega (arith, many))) (nothing_named c.args.memory.now c.args.name.now)
