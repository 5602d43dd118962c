use Rattle.zk_inform.proofs.Objects.{last_is_count}
use Rattle.zk_inform.proofs.last.count_objects.Goals as goal

pub returns-in-Ok : goal.returns-in-Ok
returns-in-Ok c = let e = c.in-Ok.ensures in last_is_count c.args.memory.now e.facts _ e.is e.given
