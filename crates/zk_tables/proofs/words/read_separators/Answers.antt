use Rattle.std.proofs.Common.{◌+◌}
use Rattle.zk_tables.specs.Dictionaries.{separators_of}
use Rattle.zk_tables.proofs.Dividing.{separators_end}
use Rattle.zk_tables.proofs.words.read_separators.Goals as goal

pub returns : goal.returns
unfolding separators_of
returns c = separators_end c.args.memory.now (c.args.dictionary.now.address + 1) c.args.dictionary.now.separators
    c.loop-i.i c.loop-i.separators.items _ c.loop-i-test.false c.loop-i.invariant.so_far
