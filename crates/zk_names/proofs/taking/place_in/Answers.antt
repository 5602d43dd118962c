use Rattle.std.proofs.Common.{None, Option, Some, subst}
use Rattle.zk_names.specs.Nodes.{Node}
use Rattle.zk_names.specs.Said.{SaysPlace, SaysPlaceBy}
use Rattle.zk_names.proofs.taking.place_in.Goals as goal

pub returns-in-Some-location_in : goal.returns-in-Some-location_in
unfolding SaysPlace
returns-in-Some-location_in c =
    subst (λ (o : Option Node). SaysPlaceBy o (Some c.in-Some-location_in.place)) c.in-Some.ensures
    c.in-Some-location_in.ensures

pub returns-in-None : goal.returns-in-None
unfolding SaysPlace
returns-in-None c = subst (λ (o : Option Node). SaysPlaceBy o None) c.in-None.ensures tt
