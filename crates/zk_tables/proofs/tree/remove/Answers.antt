use Rattle.std.proofs.Common.{arith}
use Rattle.zk_tables.proofs.TreeSteps.{remove_ends, entries_bounded}
use Rattle.zk_tables.proofs.tree.remove.Goals as goal

pub returns-clause-value : goal.returns-clause-value
returns-clause-value c = remove_ends c.args.memory.now c.unlink.new.memory c.args.object c.in_ok-place.place
    c.unlink.result c.in_ok-place.ensures.value.0 c.in_ok-place.ensures.value.1 c.unlink.ensures.value

pub unlink-requires : goal.unlink-requires
unlink-requires c = omega (arith, c.requires, c.in_ok-place.ensures.few, entries_bounded c.args.memory.now)
