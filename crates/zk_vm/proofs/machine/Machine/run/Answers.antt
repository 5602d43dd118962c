use Rattle.std.proofs.Common.{Ok, arith, ap}
use Rattle.zk_vm.specs.declared.limits.Limits.{Limits}
use Rattle.zk_vm.proofs.LogSteps.{any_bound, no_pause}
use Rattle.zk_vm.proofs.machine.Machine.run.Goals as goal

pub unreachable-requires : goal.unreachable-requires
unreachable-requires g c = no_pause g.S.Screen.shows g.S.Screen.full g.S.Screen.failed
    (g.P.Places.noted c.args.places.now c.run_up_to.new.places) _ _ _ _ _ c.requires.endless
    (omega (arith, c.run_up_to.ensures.word, ap (λ (l : Limits). l.steps) c.run_up_to.ensures.limits))
    (rw c.in-Ok-None.field-0-is at c.in-Ok-None.ensures.logged)

pub returns-in-Ok-Some-clause-logged : goal.returns-in-Ok-Some-clause-logged
returns-in-Ok-Some-clause-logged g c =
    any_bound g.S.Screen.shows g.met.S.Screen.nothing g.met.S.Screen.twice g.S.Screen.full g.S.Screen.failed
    (g.P.Places.noted c.args.places.now c.run_up_to.new.places) _ _ _ _ _ _ _ (Ok c.in-Ok-Some.event)
    (rw c.in-Ok-Some.field-0-is at c.in-Ok-Some.ensures.logged)
