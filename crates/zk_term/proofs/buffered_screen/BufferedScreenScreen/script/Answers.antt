use Rattle.std.proofs.Common.{refl, ap, ◌∙◌, ◌||◌, Bool}
use Rattle.zk_term.proofs.Writes.{written_past, script_written, script_failed, or-true}
use Rattle.zk_term.proofs.buffered_screen.BufferedScreenScreen.script.Goals as goal

pub returns-then-self : goal.returns-then-self
returns-then-self g c = (refl, refl, written_past _ _ _ c.if-self.true)

pub returns-in-Ok : goal.returns-in-Ok
returns-in-Ok g c = (
  refl,
  refl,
  script_written _ _ c.args.c c.if-self.false
      refl (ap (λ (b : Bool). g.S.Target.failed c.args.self.now.screen.now || b) c.in-Ok.ensures.failed)
      refl refl c.in-Ok.ensures.all,
)

pub returns-in-Err : goal.returns-in-Err
returns-in-Err g c = (
  refl,
  refl,
  script_failed _ _ _ c.if-self.false
      refl (ap (λ (b : Bool). g.S.Target.failed c.args.self.now.screen.now || b) c.in-Err.ensures.failed
      ∙ or-true _) refl refl c.in-Err.ensures.part,
)
