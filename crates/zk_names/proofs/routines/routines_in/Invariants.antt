use Rattle.zk_names.proofs.Taken.{Keeps}
use Rattle.zk_names.proofs.routines.routines_in.Given as goal

abbrev pub invariant-loop-at : goal.invariant-loop-at
invariant-loop-at l = Keeps l.elements l.at l.routines
