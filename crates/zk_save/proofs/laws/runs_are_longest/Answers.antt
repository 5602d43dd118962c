use Rattle.zk_save.proofs.Runs.{cuts_into_longest, cuts_in_one_way, drops_last_zeros}
use Rattle.zk_save.proofs.laws.runs_are_longest.Goals as goal

pub returns-clause-cuts_into_longest : goal.returns-clause-cuts_into_longest
returns-clause-cuts_into_longest c = cuts_into_longest

pub returns-clause-cuts_in_one_way : goal.returns-clause-cuts_in_one_way
returns-clause-cuts_in_one_way c = cuts_in_one_way

pub returns-clause-drops_last_zeros : goal.returns-clause-drops_last_zeros
returns-clause-drops_last_zeros c = drops_last_zeros
