use Rattle.zk_mem.proofs.Restarts.{puts_back, restarts_once, settles_once}
use Rattle.zk_mem.proofs.laws.restarts_stay.Goals as goal

pub returns-clause-puts_back : goal.returns-clause-puts_back
returns-clause-puts_back c = puts_back

pub returns-clause-restarts_once : goal.returns-clause-restarts_once
returns-clause-restarts_once c = restarts_once

pub returns-clause-settles_once : goal.returns-clause-settles_once
returns-clause-settles_once c = settles_once
