use Rattle.zk_term.proofs.guards.WrappedLines.{characters_take_columns}
use Rattle.zk_term.proofs.laws.characters_take_columns.Goals as goal

pub returns : goal.returns
returns c = characters_take_columns
