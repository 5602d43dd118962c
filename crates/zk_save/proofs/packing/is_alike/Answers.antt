use Rattle.zk_save.proofs.Packs.{alike_more}
use Rattle.zk_save.proofs.packing.is_alike.Goals as goal

pub loop-k-preserved : goal.loop-k-preserved
loop-k-preserved c =
    alike_more c.args.bytes.now c.args.file.now c.args.start c.loop-k.k c.loop-k.turned c.loop-k.invariant
