use Rattle.std.proofs.Common.{◌≡◌, ◌∙◌, ◌+◌, None, Ok, Some, ap, false, subst, sym, true}
use Rattle.zk_vm.specs.Pausing.{HasCome}
use Rattle.zk_vm.specs.Sessions.{Session}
use Rattle.zk_vm.proofs.LogSteps.{due_failed, due_full, due_got, ran_closed, ran_stopped, steps_on}
use Rattle.zk_vm.proofs.PausedRuns.{awaits_so, short_due}
use Rattle.zk_vm.proofs.machine.pausing.PausingMachine.run_for.Goals as goal

pub returns-in-Some-clause-logged : goal.returns-in-Some-clause-logged
returns-in-Some-clause-logged g c =
    let stopped : c.args.self.now.stopped ≡ Some c.in-Some.stop = rw (← c.self.view_is)
    (sym c.stop.ensures ∙ c.in-Some.is) in (
      0,
      ran_stopped g.S.Screen.shows g.met.S.Screen.nothing g.met.S.Screen.twice g.S.Screen.full g.S.Screen.failed
          (λ l. Unit {0}) _ _ c.args.self.now c.in-Some.stop stopped c.requires.free tt,
    )

pub returns-then-has_failed-clause-logged : goal.returns-then-has_failed-clause-logged
returns-then-has_failed-clause-logged g c =
    let free = c.requires.free in
    let runs : c.args.self.now.stopped ≡ None = rw (← c.self.view_is) (sym c.stop.ensures ∙ c.in_default.is) in
    let due = due_got g.S.Screen.shows g.met.S.Screen.nothing g.met.S.Screen.twice _ _ c.args.self.now runs free
    c.get_due.ensures.shown in
    let waits = ap (λ (m : Session). m.waiting) c.close.ensures in
    let state = ap (λ (m : Session). m.state) c.close.ensures ∙ ap (λ (m : Session). m.state) c.get_due.ensures.due in (
      0,
      due_failed g.S.Screen.shows g.met.S.Screen.nothing g.met.S.Screen.twice g.S.Screen.full g.S.Screen.failed
          (λ l. Unit {0}) _ _ _ c.args.self.now c.close.new.self due runs free
          (sym c.has_failed.ensures ∙ c.if-has_failed.true) waits state tt,
    )

pub returns-then-is_full-clause-logged : goal.returns-then-is_full-clause-logged
returns-then-is_full-clause-logged g c =
    let free = c.requires.free in
    let runs : c.args.self.now.stopped ≡ None = rw (← c.self.view_is) (sym c.stop.ensures ∙ c.in_default.is) in
    let due = due_got g.S.Screen.shows g.met.S.Screen.nothing g.met.S.Screen.twice _ _ c.args.self.now runs free
    c.get_due.ensures.shown in (
      0,
      due_full g.S.Screen.shows g.met.S.Screen.nothing g.met.S.Screen.twice g.S.Screen.full g.S.Screen.failed
          (λ l. Unit {0}) _ _ _ c.args.self.now c.get_due.new.self due runs free
          (sym c.has_failed.ensures ∙ c.if-has_failed.false) c.requires.room
          (sym c.is_full.ensures ∙ c.if-is_full.true) c.get_due.ensures.due tt,
    )

pub returns-then-memory-clause-logged : goal.returns-then-memory-clause-logged
returns-then-memory-clause-logged g c =
    let free = c.requires.free in
    let runs : c.args.self.now.stopped ≡ None = rw (← c.self.view_is) (sym c.stop.ensures ∙ c.in_default.is) in
    let due = due_got g.S.Screen.shows g.met.S.Screen.nothing g.met.S.Screen.twice _ _ c.args.self.now runs free
    c.get_due.ensures.shown in
    let works = sym c.has_failed.ensures ∙ c.if-has_failed.false in
    let come : HasCome g.S.Screen.shows g.S.Screen.full g.S.Screen.failed c.get_due.new.screen
    c.steps_in_parts.new.screen (c.get_due.new.self.state.steps + c.args.most) c.get_due.new.self
    c.steps_in_parts.new.self (Ok true)
    = rw c.if-memory.true at c.in-Ok.ensures.logged in
    let ran = subst (λ (s : Session). HasCome g.S.Screen.shows g.S.Screen.full g.S.Screen.failed
    c.get_due.new.screen c.steps_in_parts.new.screen (s.state.steps + c.args.most) s c.steps_in_parts.new.self
    (Ok true)) c.get_due.ensures.due come in (
      ran.0,
      steps_on g.S.Screen.shows g.met.S.Screen.nothing g.met.S.Screen.twice g.S.Screen.full
          g.S.Screen.failed (λ l. Unit {0}) _ _ _ _ ran.0 c.args.self.now _ _ due works runs ran.1,
    )

pub returns-else-memory-clause-logged : goal.returns-else-memory-clause-logged
returns-else-memory-clause-logged g c =
    let free = c.requires.free in
    let runs : c.args.self.now.stopped ≡ None = rw (← c.self.view_is) (sym c.stop.ensures ∙ c.in_default.is) in
    let due = due_got g.S.Screen.shows g.met.S.Screen.nothing g.met.S.Screen.twice _ _ c.args.self.now runs free
    c.get_due.ensures.shown in
    let come : HasCome g.S.Screen.shows g.S.Screen.full g.S.Screen.failed c.get_due.new.screen
    c.steps_in_parts.new.screen (c.get_due.new.self.state.steps + c.args.most) c.get_due.new.self
    c.steps_in_parts.new.self (Ok false)
    = rw c.if-memory.false at c.in-Ok.ensures.logged in
    let short = subst (λ (s : Session). HasCome g.S.Screen.shows g.S.Screen.full g.S.Screen.failed
    c.get_due.new.screen c.steps_in_parts.new.screen (s.state.steps + c.args.most) s c.steps_in_parts.new.self
    (Ok false)) c.get_due.ensures.due come in (
      short.0,
      short_due g.S.Screen.shows g.met.S.Screen.nothing g.met.S.Screen.twice g.S.Screen.failed _ short.0 _
          _ _ c.args.self.now _ due runs free short.1,
    )

pub returns-in-Err-Ok-clause-logged : goal.returns-in-Err-Ok-clause-logged
returns-in-Err-Ok-clause-logged g c =
    let free = c.requires.free in
    let runs : c.args.self.now.stopped ≡ None = rw (← c.self.view_is) (sym c.stop.ensures ∙ c.in_default.is) in
    let due = due_got g.S.Screen.shows g.met.S.Screen.nothing g.met.S.Screen.twice _ _ c.args.self.now runs free
    c.get_due.ensures.shown in
    let works = sym c.has_failed.ensures ∙ c.if-has_failed.false in
    let ran = rw (c.get_due.ensures.due, c.in-Err-Ok.field-0-is) at c.in-Err-Ok.ensures.logged in (
      ran.0,
      steps_on g.S.Screen.shows g.met.S.Screen.nothing g.met.S.Screen.twice g.S.Screen.full
          g.S.Screen.failed (λ l. Unit {0}) _ _ _ _ ran.0 c.args.self.now _ _ due works runs ran.1,
    )

pub returns-in-Err-Err-clause-logged : goal.returns-in-Err-Err-clause-logged
returns-in-Err-Err-clause-logged g c =
    let free = c.requires.free in
    let runs : c.args.self.now.stopped ≡ None = rw (← c.self.view_is) (sym c.stop.ensures ∙ c.in_default.is) in
    let due = due_got g.S.Screen.shows g.met.S.Screen.nothing g.met.S.Screen.twice _ _ c.args.self.now runs free
    c.get_due.ensures.shown in
    let works = sym c.has_failed.ensures ∙ c.if-has_failed.false in
    let ran = rw (c.get_due.ensures.due, c.in-Err-Err.field-0-is) at c.in-Err-Err.ensures.logged in
    let all = steps_on g.S.Screen.shows g.met.S.Screen.nothing g.met.S.Screen.twice g.S.Screen.full
    g.S.Screen.failed (λ l. Unit {0}) _ _ _ _ ran.0 c.args.self.now _ _ due works runs ran.1 in
    let waits = ap (λ (m : Session). m.waiting) c.close-in-Err-Err.ensures ∙ sym ran.1.ends.0 in
    let state = ap (λ (m : Session). m.state) c.close-in-Err-Err.ensures in (
      ran.0,
      ran_closed g.S.Screen.shows g.met.S.Screen.nothing g.met.S.Screen.twice g.S.Screen.full
          g.S.Screen.failed (λ l. Unit {0}) _ _ _ ran.0 c.args.self.now c.steps_in_parts.new.self _
          c.in-Err-Err.stop all waits state,
    )

pub returns-in-Err-Ok-clause-reads : goal.returns-in-Err-Ok-clause-reads
returns-in-Err-Ok-clause-reads g c =
    let ran = rw c.in-Err-Ok.field-0-is at c.in-Err-Ok.ensures.logged in
    (awaits_so c.steps_in_parts.new.self ran.1.to c.in-Err-Ok.event
    (rw (← c.self-in-Err-Ok.view_is) c.is_answerable.ensures) ran.1.ends).reads

pub returns-in-Err-Ok-clause-steps : goal.returns-in-Err-Ok-clause-steps
returns-in-Err-Ok-clause-steps g c =
    let ran = rw c.in-Err-Ok.field-0-is at c.in-Err-Ok.ensures.logged in
    (awaits_so c.steps_in_parts.new.self ran.1.to c.in-Err-Ok.event
    (rw (← c.self-in-Err-Ok.view_is) c.is_answerable.ensures) ran.1.ends).steps

pub returns-in-Err-Ok-clause-runs : goal.returns-in-Err-Ok-clause-runs
returns-in-Err-Ok-clause-runs g c =
    let ran = rw c.in-Err-Ok.field-0-is at c.in-Err-Ok.ensures.logged in
    (awaits_so c.steps_in_parts.new.self ran.1.to c.in-Err-Ok.event
    (rw (← c.self-in-Err-Ok.view_is) c.is_answerable.ensures) ran.1.ends).runs
