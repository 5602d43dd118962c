use Rattle.std.proofs.Common.{◌∙◌, sym}
use Rattle.zk_tables.proofs.Dividing.{counted_faults}
use Rattle.zk_tables.proofs.words.read_counted.Goals as goal

pub returns-in-Err : goal.returns-in-Err
returns-in-Err c = c.loop-i.invariant.so_far ∙ counted_faults c.args.memory.now c.args.address c.args.count
    c.loop-i.i c.loop-i.letters.items c.in-Err.fault c.loop-i-test.true (sym c.in-Err.ensures)
