use Rattle.zk_tables.proofs.Storing.{word_beside}
use Rattle.zk_tables.proofs.parsing.store_word.Goals as goal

pub returns-clause-beside : goal.returns-clause-beside
returns-clause-beside c = λ low high from to. word_beside c.set_word.result c.args.memory.now c.set_word.new.self
    c.args.address c.args.value low high c.set_word.ensures from to
