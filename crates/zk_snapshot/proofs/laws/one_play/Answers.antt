use Rattle.zk_snapshot.proofs.guards.Unique.{one_play}
use Rattle.zk_snapshot.proofs.laws.one_play.Goals as goal

pub returns : goal.returns
returns c = one_play c.args.first.now c.args.second.now c.is_kept.ensures c.is_kept-2.ensures c.requires.story
