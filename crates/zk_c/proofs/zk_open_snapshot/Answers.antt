use Rattle.std.proofs.Common.{refl, subst}
use Rattle.zk_vm.specs.declared.limits.Limits.{Limits}
use Rattle.zk_host.specs.Exports.{IsOpenedAgain}
use Rattle.zk_host.specs.Exports.IsOpenedAgain.{InRange, NoLimits}
use Rattle.zk_c.proofs.zk_open_snapshot.Goals as goal

pub returns-in-None : goal.returns-in-None
returns-in-None c = NoLimits (c.limits_said.ensures.none c.in-None.is) refl

pub returns-in-Some : goal.returns-in-Some
returns-in-Some c =
    let said = c.in-Some.ensures.said in
    subst (λ (l : Limits). IsOpenedAgain c.args.game.now.play c.hold.new.game.play c.args.story.now
    c.args.snapshot.now l c.hold.result) said.0
    (InRange c.hold.result c.open_snapshot.result said.1 c.open_snapshot.ensures c.hold.ensures)
