use Rattle.zk_snapshot.proofs.Longest.{fits_newest}
use Rattle.zk_snapshot.proofs.guards.Again.{opens_again}
use Rattle.zk_snapshot.proofs.laws.opens_again.Goals as goal

pub returns : goal.returns
returns c = opens_again (λ file states. fits_newest file states) c.args.machine.now
    c.args.opened.now c.is_kept.ensures c.is_kept-2.ensures
