use Rattle.zk_mem.proofs.Again.{set_again_stays, fresh_again_stays}
use Rattle.zk_mem.proofs.laws.fresh_stays_fresh.Goals as goal

pub returns-clause-set_again : goal.returns-clause-set_again
returns-clause-set_again c = set_again_stays

pub returns-clause-fresh_again : goal.returns-clause-fresh_again
returns-clause-fresh_again c = fresh_again_stays
