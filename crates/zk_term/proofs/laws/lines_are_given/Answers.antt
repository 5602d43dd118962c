use Rattle.zk_term.proofs.Giving.{lines_are_given}
use Rattle.zk_term.proofs.laws.lines_are_given.Goals as goal

pub returns : goal.returns
returns g c = lines_are_given g.S.Source.gives
