use Rattle.std.proofs.Common.{arith}
use Rattle.zk_inspect.specs.Parts.{none}
use Rattle.zk_inspect.proofs.AllNumbers.{one_more}
use Rattle.zk_inspect.proofs.check.add_all.Goals as goal

pub loop-number-init : goal.loop-number-init
loop-number-init c = none

pub loop-number-preserved : goal.loop-number-preserved
loop-number-preserved c = one_more c.args.memory.now c.args.numbers.now c.loop-number.number-index _ _ _ _
    (omega arith) c.loop-number.invariant c.in_ok-add.ensures
