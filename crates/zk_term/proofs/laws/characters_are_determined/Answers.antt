use Rattle.zk_term.proofs.Spelling.{characters_are_determined}
use Rattle.zk_term.proofs.laws.characters_are_determined.Goals as goal

pub returns : goal.returns
returns c = characters_are_determined
