use Rattle.std.proofs.Common.{refl, ap, ◌∙◌, ◌||◌, Bool}
use Rattle.zk_term.specs.BufferedScreens.{written_twice}
use Rattle.zk_term.proofs.Writes.{written_past, screen_failed, screen_flushed, script_failed, script_flushed, or-true}
use Rattle.zk_term.proofs.buffered_screen.BufferedScreen.finish.Goals as goal

pub returns-then-self-clause-written : goal.returns-then-self-clause-written
returns-then-self-clause-written g c = written_past _ _ _ c.if-self.true

pub returns-in-Err-clause-written : goal.returns-in-Err-clause-written
returns-in-Err-clause-written g c =
    screen_failed _ _ _ c.if-self.false refl (ap (λ (b : Bool). b || g.T.Target.failed c.args.self.now.script.now)
    c.in-Err.ensures.failed) refl refl c.in-Err.ensures.part

pub returns-in-Ok-end-clause-written : goal.returns-in-Ok-end-clause-written
returns-in-Ok-end-clause-written g c =
    let screen = ap (λ (b : Bool). b || g.T.Target.failed c.args.self.now.script.now) c.in-Ok.ensures.failed in
    let script = ap (λ (b : Bool). g.S.Target.failed c.end.new.target || b) c.in-Ok-end.ensures.failed in
    written_twice _ _ _ _ _ _ _
    (screen_flushed _ (record {
      screen = g.S.Target.taken c.end.new.target;
      to_screen = c.end.new.self;
      script = g.T.Target.taken c.args.self.now.script.now;
      to_script = c.args.self.now.to_script;
      failed = c.args.self.now.failed;
      either = g.S.Target.failed c.end.new.target || g.T.Target.failed c.args.self.now.script.now;
    }) c.if-self.false refl screen refl refl c.in-Ok.ensures.all c.in-Ok.ensures.none)
    (script_flushed _ _ c.if-self.false refl script refl refl c.in-Ok-end.ensures.all c.in-Ok-end.ensures.none)

pub returns-in-Err-end-clause-written : goal.returns-in-Err-end-clause-written
returns-in-Err-end-clause-written g c =
    let screen = ap (λ (b : Bool). b || g.T.Target.failed c.args.self.now.script.now) c.in-Ok.ensures.failed in
    let script = ap (λ (b : Bool). g.S.Target.failed c.end.new.target || b) c.in-Err-end.ensures.failed ∙ or-true _ in
    written_twice _ _ _ _ _ _ _
    (screen_flushed _ (record {
      screen = g.S.Target.taken c.end.new.target;
      to_screen = c.end.new.self;
      script = g.T.Target.taken c.args.self.now.script.now;
      to_script = c.args.self.now.to_script;
      failed = c.args.self.now.failed;
      either = g.S.Target.failed c.end.new.target || g.T.Target.failed c.args.self.now.script.now;
    }) c.if-self.false refl screen refl refl c.in-Ok.ensures.all c.in-Ok.ensures.none)
    (script_failed _ _ _ c.if-self.false refl script refl refl c.in-Err-end.ensures.part)
