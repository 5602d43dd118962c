use Rattle.zk_term.proofs.guards.Tallest.{keeps_the_tallest}
use Rattle.zk_term.proofs.laws.the_tallest_is_kept.Goals as goal

pub returns : goal.returns
returns c = keeps_the_tallest
