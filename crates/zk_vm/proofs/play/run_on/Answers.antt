use Rattle.std.proofs.Common.{rules, ◌≡◌, ◌∙◌, Some, None, true, false, sym, ap}
use Rattle.zk_vm.specs.declared.stop.Stop.TheVariants as stop
use Rattle.zk_vm.specs.Sessions.{Session}
use Rattle.zk_vm.proofs.LogPlays.{ran_part, ran_whole}
use Rattle.zk_vm.proofs.play.run_on.Goals as goal

pub returns-then-has_failed-clause-logged : goal.returns-then-has_failed-clause-logged
returns-then-has_failed-clause-logged g c =
    let broken : c.finish.new.self.failed ≡ true = sym c.has_failed.ensures ∙ c.if-has_failed.true in
    let stopped : c.close.new.self.stopped ≡ Some stop.Write = ap (λ (s : Session). s.stopped) c.close.ensures in
    let free : c.close.new.self.waiting ≡ None = ap (λ (s : Session). s.waiting) c.close.ensures in
    let ran = c.run-answer.ensures.logged in
    let ends = ran_part _ _ _ _ _ _ _ _ _ _ c.close.new.self _ _ _ _ ran ran.got.2 c.finish.ensures.written
    (record { screen = search rules; script = search rules; failed = search rules; either = search rules })
    (record { screen = c.finish.ensures.no_text; script = c.finish.ensures.no_script }) broken stopped free in
    search (rules, ends)

pub returns-clause-logged : goal.returns-clause-logged
returns-clause-logged g c =
    let sound : c.finish.new.self.failed ≡ false = sym c.has_failed.ensures ∙ c.if-has_failed.false in
    let ran = c.run-answer.ensures.logged in
    let p = ran.got.0 in
    let q = ran.got.1 in
    let goes = ran_whole _ _ _ _ _ _ _ _ _ _ _ _ _ _ ran c.run-answer.ensures.stops
    (λ f. f) ran.got.2 c.finish.ensures.written
    (record { screen = search rules; script = search rules; failed = search rules; either = search rules })
    (record { screen = c.finish.ensures.no_text; script = c.finish.ensures.no_script }) sound in
    let x : g.S.Target.taken c.screen-1.given.0 ≡ g.S.Target.taken c.finish.new.self.screen.now = search rules in
    let y : g.T.Target.taken c.script-1.given.0 ≡ g.T.Target.taken c.finish.new.self.script.now = search rules in
    let z : g.S.Target.failed c.screen-1.given.0 ≡ g.S.Target.failed c.finish.new.self.screen.now = search rules in
    let w : g.T.Target.failed c.script-1.given.0 ≡ g.T.Target.failed c.finish.new.self.script.now = search rules in
    let u : g.S.Target.taken c.args.screen.now ≡ g.S.Target.taken c.new-console.result.screen.now = search rules in
    let v : g.T.Target.taken c.args.script.now ≡ g.T.Target.taken c.new-console.result.script.now = search rules in
    rw (x, y, z, w, u, v) goes
