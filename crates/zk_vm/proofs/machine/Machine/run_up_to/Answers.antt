use Rattle.std.proofs.Common.{◌∙◌, ℕ, List, Some, ap, sym}
use Rattle.zk_vm.specs.declared.stop.Stop.TheVariants.{Write}
use Rattle.zk_vm.specs.Sessions.{Session}
use Rattle.zk_vm.specs.Halts.{event_waited}
use Rattle.zk_vm.specs.Sound.{state_seen}
use Rattle.zk_vm.specs.Step.{State}
use Rattle.zk_vm.proofs.Answering.{answerable}
use Rattle.zk_vm.proofs.LogSteps.{asked_waits, due_failed, due_full, due_got, ran_closed, ran_stopped, steps_on}
use Rattle.zk_vm.proofs.Keeping.{seen}
use Rattle.zk_vm.proofs.machine.Machine.run_up_to.Goals as goal

pub returns-in-Err-Ok-clause-steps : goal.returns-in-Err-Ok-clause-steps
returns-in-Err-Ok-clause-steps g c =
    let ends = (rw c.in-Err-Ok.field-0-is at c.in-Err-Ok.ensures.logged).ends in
    let waits = asked_waits _ _ c.in-Err-Ok.event ends in
    let can = answerable c.self-2.inside waits.0 c.self-2.invariant
    (ap (λ (m : Session). m.waiting) c.self-2.view_is ∙ waits.1) in
    rw (← c.self-2.view_is) can.steps

pub returns-in-Some-clause-logged : goal.returns-in-Some-clause-logged
returns-in-Some-clause-logged g c =
    let free = rw (← c.self.view_is) at c.requires.free in
    rw (← c.self.view_is) (ran_stopped g.S.Screen.shows g.met.S.Screen.nothing g.met.S.Screen.twice
    g.S.Screen.full g.S.Screen.failed (g.P.Places.noted c.args.places.now c.args.places.now) _ _
    (seen c.self.inside) c.in-Some.stop c.in-Some.is free (g.met.P.Places.nothing _))

pub returns-then-has_failed-clause-logged : goal.returns-then-has_failed-clause-logged
returns-then-has_failed-clause-logged g c =
    let free = rw (← c.self.view_is) at c.requires.free in
    let first = rw c.as_slice.ensures.value at c.script_all.ensures in
    let due = due_got g.S.Screen.shows g.met.S.Screen.nothing g.met.S.Screen.twice _ _ (seen c.self.inside)
    c.in_default.is free first in
    let there = ap (λ (due : List ℕ). let s : State = record (state_seen c.self.inside) { due = due } in s)
    c.clear.ensures in
    let new : Session = record (seen c.self.inside) {
      state = record (state_seen c.self.inside)
          { due = c.clear.new.self.items };
      stopped = Some Write;
    } in
    rw (← c.self.view_is) (due_failed g.S.Screen.shows g.met.S.Screen.nothing g.met.S.Screen.twice g.S.Screen.full
    g.S.Screen.failed (g.P.Places.noted c.args.places.now c.args.places.now) _ _ _ (seen c.self.inside) new
    due c.in_default.is free (sym c.has_failed.ensures ∙ c.if-has_failed.true) free there
    (g.met.P.Places.nothing _))

pub returns-then-is_full-clause-logged : goal.returns-then-is_full-clause-logged
returns-then-is_full-clause-logged g c =
    let free = rw (← c.self.view_is) at c.requires.free in
    let first = rw c.as_slice.ensures.value at c.script_all.ensures in
    let due = due_got g.S.Screen.shows g.met.S.Screen.nothing g.met.S.Screen.twice _ _ (seen c.self.inside)
    c.in_default.is free first in
    rw (← c.self.view_is) (due_full g.S.Screen.shows g.met.S.Screen.nothing g.met.S.Screen.twice g.S.Screen.full
    g.S.Screen.failed (g.P.Places.noted c.args.places.now c.args.places.now) _ _ _ (seen c.self.inside) _ due
    c.in_default.is free (sym c.has_failed.ensures ∙ c.if-has_failed.false) c.requires.room
    (sym c.is_full.ensures ∙ c.if-is_full.true)
    (ap (λ (due : List ℕ). let t : Session = record (seen c.self.inside)
    { state = record (state_seen c.self.inside) { due = due } } in t) c.clear.ensures) (g.met.P.Places.nothing _))

pub returns-in-Ok-clause-logged : goal.returns-in-Ok-clause-logged
returns-in-Ok-clause-logged g c =
    let free = rw (← c.self.view_is) at c.requires.free in
    let first = rw c.as_slice.ensures.value at c.script_all.ensures in
    let due = due_got g.S.Screen.shows g.met.S.Screen.nothing g.met.S.Screen.twice _ _ (seen c.self.inside)
    c.in_default.is free first in
    let works = sym c.has_failed.ensures ∙ c.if-has_failed.false in
    let ran = steps_on g.S.Screen.shows g.met.S.Screen.nothing g.met.S.Screen.twice g.S.Screen.full
    g.S.Screen.failed (g.P.Places.noted c.args.places.now c.steps_to_pause.new.places) _ _ _ _ _
    (seen c.self.inside) c.steps_to_pause.new.self _ due works c.in_default.is
    (rw c.clear.ensures at c.in-Ok.ensures.logged) in
    rw (← c.self.view_is) ran

pub returns-in-Err-Ok-clause-logged : goal.returns-in-Err-Ok-clause-logged
returns-in-Err-Ok-clause-logged g c =
    let free = rw (← c.self.view_is) at c.requires.free in
    let first = rw c.as_slice.ensures.value at c.script_all.ensures in
    let due = due_got g.S.Screen.shows g.met.S.Screen.nothing g.met.S.Screen.twice _ _ (seen c.self.inside)
    c.in_default.is free first in
    let works = sym c.has_failed.ensures ∙ c.if-has_failed.false in
    let ran = steps_on g.S.Screen.shows g.met.S.Screen.nothing g.met.S.Screen.twice g.S.Screen.full
    g.S.Screen.failed (g.P.Places.noted c.args.places.now c.steps_to_pause.new.places) _ _ _ _ _
    (seen c.self.inside) c.steps_to_pause.new.self _ due works c.in_default.is
    (rw (c.clear.ensures, c.in-Err-Ok.field-0-is) at c.in-Err-Ok.ensures.logged) in
    rw (← c.self.view_is) ran

pub returns-in-Err-Err-clause-logged : goal.returns-in-Err-Err-clause-logged
returns-in-Err-Err-clause-logged g c =
    let free = rw (← c.self.view_is) at c.requires.free in
    let first = rw c.as_slice.ensures.value at c.script_all.ensures in
    let due = due_got g.S.Screen.shows g.met.S.Screen.nothing g.met.S.Screen.twice _ _ (seen c.self.inside)
    c.in_default.is free first in
    let works = sym c.has_failed.ensures ∙ c.if-has_failed.false in
    let ran = steps_on g.S.Screen.shows g.met.S.Screen.nothing g.met.S.Screen.twice g.S.Screen.full
    g.S.Screen.failed (g.P.Places.noted c.args.places.now c.steps_to_pause.new.places) _ _ _ _ _
    (seen c.self.inside) c.steps_to_pause.new.self _ due works c.in_default.is
    (rw (c.clear.ensures, c.in-Err-Err.field-0-is) at c.in-Err-Err.ensures.logged) in
    rw (← c.self.view_is) (ran_closed g.S.Screen.shows g.met.S.Screen.nothing g.met.S.Screen.twice g.S.Screen.full
    g.S.Screen.failed (g.P.Places.noted c.args.places.now c.steps_to_pause.new.places) _ _ _ _
    (seen c.self.inside) c.steps_to_pause.new.self _ c.in-Err-Err.stop ran
    (ap (λ (m : Session). m.waiting) c.self-2.view_is) (ap (λ (m : Session). m.state) c.self-2.view_is))

pub returns-in-Ok-clause-asks : goal.returns-in-Ok-clause-asks
returns-in-Ok-clause-asks g c = let ends = c.in-Ok.ensures.logged.ends in
    ap (λ (m : Session). event_waited m.waiting) ends.0 ∙ ap event_waited ends.1.free

pub returns-in-Ok-clause-runs : goal.returns-in-Ok-clause-runs
returns-in-Ok-clause-runs g c =
    let ends = c.in-Ok.ensures.logged.ends in ap (λ (m : Session). m.stopped) ends.0 ∙ ends.1.runs
