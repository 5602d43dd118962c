use Rattle.std.proofs.Common.{◌∙◌, Some, refl, ap, subst}
use Rattle.zk_host.specs.Calls.{begun_play}
use Rattle.zk_host.specs.Exports.{AreLimits}
use Rattle.zk_host.specs.Exports.IsOpened.{Opened, NoLimits}
use Rattle.zk_host.proofs.Exporting.{not_opened}
use Rattle.zk_c.proofs.zk_open.Goals as goal

pub returns-in-None : goal.returns-in-None
returns-in-None c = NoLimits (c.limits_said.ensures.none c.in-None.is) refl

pub returns-in-Ok : goal.returns-in-Ok
returns-in-Ok c =
    let said = c.in-Some.ensures.said in
    Opened (subst AreLimits said.0 said.1) c.in-Ok.ensures.story
    (c.put.ensures ∙ ap (λ p. Some p) (c.in-Ok.ensures.begun
    ∙ (λ i. begun_play c.args.story.now c.args.seed (said.0 i) (c.view_if.ensures i))))

pub returns-in-Err : goal.returns-in-Err
returns-in-Err c = let said = c.in-Some.ensures.said in not_opened _ _ _ _ _ c.in-Err.error _
    (subst AreLimits said.0 said.1) c.number.ensures c.in-Err.ensures.refused
