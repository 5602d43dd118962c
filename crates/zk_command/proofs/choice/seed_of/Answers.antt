use Rattle.std.proofs.Common.{Some}
use Rattle.zk_command.proofs.choice.seed_of.Goals as goal

pub returns-in-Err-clause-says_none : goal.returns-in-Err-clause-says_none
returns-in-Err-clause-says_none c = λ a said. c.in-Err.ensures.says_none (Some a) said
