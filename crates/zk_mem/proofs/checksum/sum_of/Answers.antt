use Rattle.std.proofs.Common.{◌∙◌}
use Rattle.zk_mem.proofs.Sums.{sum_is}
use Rattle.zk_mem.proofs.checksum.sum_of.Goals as goal

pub returns : goal.returns
returns c = c.sum_bytes.ensures ∙ sum_is c.args.file.now c.end_of-end.result c.end_of-end.ensures.value
