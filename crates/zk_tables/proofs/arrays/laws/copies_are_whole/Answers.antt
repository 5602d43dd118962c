use Rattle.zk_tables.proofs.CopyLaw.{copies_are_whole, clears_are_whole}
use Rattle.zk_tables.proofs.arrays.laws.copies_are_whole.Goals as goal

pub returns-clause-copied : goal.returns-clause-copied
returns-clause-copied c = copies_are_whole

pub returns-clause-cleared : goal.returns-clause-cleared
returns-clause-cleared c = clears_are_whole
