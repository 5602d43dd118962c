use Rattle.zk_term.proofs.guards.KeptCursors.{keeps_the_cursor}
use Rattle.zk_term.proofs.laws.cursors_stay_near_the_grid.Goals as goal

pub returns : goal.returns
returns c = keeps_the_cursor
