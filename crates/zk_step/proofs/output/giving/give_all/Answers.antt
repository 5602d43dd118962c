use Rattle.std.proofs.Common.{[]}
use Rattle.zk_step.proofs.output.giving.give_all.Goals as goal

pub unreachable-requires : goal.unreachable-requires
unreachable-requires g c = c.requires _ _ _ (c.in-Err.ensures.err [])
