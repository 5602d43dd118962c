use Rattle.zk_term.proofs.guards.PrintedRows.{characters_stand_in_a_row}
use Rattle.zk_term.proofs.laws.characters_stand_in_a_row.Goals as goal

pub returns : goal.returns
returns c = characters_stand_in_a_row
