use Rattle.zk_strict.proofs.Told.{told_in_runs}
use Rattle.zk_strict.proofs.laws.constants_are_told_in_runs.Goals as goal

pub returns : goal.returns
returns c = told_in_runs
