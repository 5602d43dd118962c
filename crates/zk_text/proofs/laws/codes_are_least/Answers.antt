use Rattle.zk_text.proofs.Tables.{code_is_least}
use Rattle.zk_text.proofs.laws.codes_are_least.Goals as goal

pub returns-clause-least : goal.returns-clause-least
returns-clause-least c = code_is_least
