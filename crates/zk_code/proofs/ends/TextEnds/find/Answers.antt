use Rattle.std.proofs.Common.{◌∙◌, ◌+◌, ◌-◌, ◌/◌, arith}
use Rattle.std.proofs.lemmas.List.{length-set}
use Rattle.zk_code.proofs.Blocks.{block_more}
use Rattle.zk_code.proofs.ends.TextEnds.find.Goals as goal

pub loop-behind-init : goal.loop-behind-init
loop-behind-init c =
    record { known = c.in_ok-blocks.ensures.known c.args.memory.now; size = c.in_ok-blocks.ensures.size }

pub loop-behind-preserved : goal.loop-behind-preserved
loop-behind-preserved c =
    let lt = c.loop-behind-test.true in
    let size = c.loop-behind.invariant.size in
    record {
      known = block_more c.args.memory.now _ (c.len.result / 256 + 1 - 1 - c.loop-behind.behind)
          c.block_ends.result (omega arith) c.loop-behind.invariant.known c.block_ends.ensures;
      size = length-set _ _ _ ∙ size;
    }
