use Rattle.zk_host.proofs.Naming.{no_name}
use Rattle.zk_host.proofs.name.name_at.Goals as goal

pub returns-in-None : goal.returns-in-None
returns-in-None c = rw (c.in-None.is, c.new-collected.ensures) (no_name c.args.memory.now)
