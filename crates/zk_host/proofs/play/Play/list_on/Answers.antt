use Rattle.std.proofs.Common.{rules}
use Rattle.zk_host.proofs.play.Play.list_on.Goals as goal

pub returns-in-Over : goal.returns-in-Over
returns-in-Over c = ((c.go_on-end.new.self, search rules), search rules)
