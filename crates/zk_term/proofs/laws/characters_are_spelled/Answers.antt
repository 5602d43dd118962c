use Rattle.zk_term.proofs.Spelling.{characters_are_spelled}
use Rattle.zk_term.proofs.laws.characters_are_spelled.Goals as goal

pub returns : goal.returns
returns c = characters_are_spelled
