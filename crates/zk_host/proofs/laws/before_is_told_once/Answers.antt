use Rattle.zk_host.proofs.guards.MarkLaws.{told_once}
use Rattle.zk_host.proofs.laws.before_is_told_once.Goals as goal

pub returns : goal.returns
returns c = told_once
