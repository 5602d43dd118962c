use Rattle.zk_save.proofs.RoundTrip.{comes_back, packs_short, turns_back}
use Rattle.zk_save.proofs.laws.packed_comes_back.Goals as goal

pub returns-clause-comes_back : goal.returns-clause-comes_back
returns-clause-comes_back c = comes_back

pub returns-clause-packs_short : goal.returns-clause-packs_short
returns-clause-packs_short c = packs_short

pub returns-clause-turns_back : goal.returns-clause-turns_back
returns-clause-turns_back c = turns_back
