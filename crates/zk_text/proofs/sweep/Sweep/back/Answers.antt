use Rattle.std.proofs.Common.{sym}
use Rattle.zk_text.proofs.Faultless.{swept_past}
use Rattle.zk_text.proofs.sweep.Sweep.back.Goals as goal

pub returns-in_default : goal.returns-in_default
returns-in_default c = swept_past c.args.memory.now c.args.address _ (sym c.in_default.ensures.value) c.requires
