use Rattle.zk_host.proofs.guards.MarkLaws.{bytes_marked}
use Rattle.zk_host.proofs.laws.bytes_have_marks.Goals as goal

pub returns : goal.returns
returns c = bytes_marked
