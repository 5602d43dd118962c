use Rattle.zk_tables.proofs.Storing.{byte_beside}
use Rattle.zk_tables.proofs.parsing.store_byte.Goals as goal

pub returns-clause-beside : goal.returns-clause-beside
returns-clause-beside c = λ low high from to. byte_beside c.set_byte.result c.args.memory.now c.set_byte.new.self
    c.args.address c.args.value low high c.set_byte.ensures from to
