use Rattle.std.proofs.Common.{◌≡◌, ◌∙◌, ◌≤◌, ◌<◌, ◌+◌, ℕ, [], ◌∷◌, ap, sym, subst, refl, arith}
use Rattle.zk_vm.specs.declared.limits.Limits.{Limits}
use Rattle.zk_vm.specs.Sessions.{Session}
use Rattle.zk_vm.proofs.LogSteps.{on_ahead, on_bound, on_end, on_failed, on_full, on_start, on_step, on_stop}
use Rattle.zk_vm.proofs.machine.Machine.steps_to_pause.Goals as goal

pub loop-i-init : goal.loop-i-init
loop-i-init g c = record {
  logged = on_start g.S.Screen.shows g.met.S.Screen.nothing g.met.S.Screen.twice g.P.Places.noted
      g.met.P.Places.twice _ _ _ (record {
        runs = c.requires.runs;
        free = c.requires.free;
        silent = c.requires.silent;
      }) (sym (ap (λ (m : Session). m.left) c.self.view_is)) (g.met.P.Places.nothing _);
  reads = refl;
  more = omega arith;
  count = omega (arith, ap (λ (m : Session). m.state.steps) c.self.view_is);
  works = c.requires.works;
  room = c.requires.room;
  under = omega (
    arith,
    ap (λ (m : Session). m.state.steps) c.self.view_is,
    c.min-bound.ensures,
    c.saturating_add.ensures,
    c.self.invariant.steps,
  );
  to = omega (arith, ap (λ (m : Session). m.limits.steps) c.self.view_is, c.min-bound.ensures);
}

pub loop-i-preserved : goal.loop-i-preserved
loop-i-preserved g c =
    let mid = c.go_ahead.new.self in
    let start = c.loop-i.invariant.logged in
    let limits = ap (λ (m : Session). m.limits.steps) start.left in
    let same = ap (λ (l : Limits). l.steps) c.in-Ok.ensures.limits in
    let few : mid.state.steps ≤ mid.limits.steps = omega (
      arith,
      limits,
      same,
      c.in-Ok.ensures.few,
      c.loop-i.invariant.to,
    ) in
    let on = on_ahead g.S.Screen.shows g.met.S.Screen.nothing g.met.S.Screen.twice g.P.Places.noted
    g.met.P.Places.twice c.args.places.now c.loop-i.places c.go_ahead.new.places _ _ _ _ _ mid start
    c.in-Ok.ensures.ahead few in
    let steps = ap (λ (m : Session). m.state.steps) c.self-in-loop-i.view_is in
    let room : mid.state.steps < mid.limits.steps = omega (
      arith,
      steps,
      limits,
      same,
      c.loop-i.invariant.to,
      c.if-self-bound.false,
    ) in
    let here = ap (λ (m : Session). m.state.pc) c.self-in-loop-i.view_is in
    let one : g.P.Places.noted c.go_ahead.new.places c.note.new.self
    (mid.state.pc ∷ []) =
    subst (λ (pc : ℕ). g.P.Places.noted c.go_ahead.new.places c.note.new.self (pc ∷ [])) here c.note.ensures in
    let went = on_step g.S.Screen.shows g.met.S.Screen.nothing g.met.S.Screen.twice g.P.Places.noted
    g.met.P.Places.twice g.S.Screen.full g.S.Screen.failed (c.args.self.now.state.steps + c.args.most)
    c.args.places.now c.go_ahead.new.places c.note.new.self _ _ _ _ _ mid _ on room c.in-Ok-step.ensures.silent
    one c.in-Ok-step.ensures.step in
    record {
      logged = went.on;
      reads = c.in-Ok-step.ensures.reads ∙ c.in-Ok.ensures.reads ∙ c.loop-i.invariant.reads;
      more = omega (arith, c.in-Ok-step.ensures.more, c.in-Ok.ensures.more, c.loop-i.invariant.more);
      count = omega (arith, c.in-Ok-step.ensures.counted, c.in-Ok.ensures.more, c.loop-i.invariant.count);
      works = sym c.has_failed.ensures ∙ c.if-has_failed.false;
      room = sym c.is_full.ensures ∙ c.if-is_full.false;
      under = omega (arith, steps, c.in-Ok-step.ensures.counted, c.if-self-bound.false);
      to = c.loop-i.invariant.to;
    }

pub returns-in-Err-clause-logged : goal.returns-in-Err-clause-logged
returns-in-Err-clause-logged g c = on_stop g.S.Screen.shows g.met.S.Screen.nothing g.met.S.Screen.twice
    g.P.Places.noted g.met.P.Places.twice g.S.Screen.full g.S.Screen.failed
    (c.args.self.now.state.steps + c.args.most) c.args.places.now c.loop-i.places c.go_ahead.new.places _ _ _ _ _ _
    _ c.loop-i.invariant.logged c.loop-i.invariant.works c.in-Err.ensures.ahead

pub returns-then-self-bound-clause-logged : goal.returns-then-self-bound-clause-logged
returns-then-self-bound-clause-logged g c =
    let mid = c.go_ahead.new.self in
    let start = c.loop-i.invariant.logged in
    let limits = ap (λ (m : Session). m.limits.steps) start.left in
    let same = ap (λ (l : Limits). l.steps) c.in-Ok.ensures.limits in
    let few : mid.state.steps ≤ mid.limits.steps = omega (
      arith,
      limits,
      same,
      c.in-Ok.ensures.few,
      c.loop-i.invariant.to,
    ) in
    let on = on_ahead g.S.Screen.shows g.met.S.Screen.nothing g.met.S.Screen.twice g.P.Places.noted
    g.met.P.Places.twice c.args.places.now c.loop-i.places c.go_ahead.new.places _ _ _ _ _ mid start
    c.in-Ok.ensures.ahead few in
    let steps = ap (λ (m : Session). m.state.steps) c.self-in-loop-i.view_is in
    let at : mid.state.steps ≡ c.min-bound.result = omega (arith, steps, c.in-Ok.ensures.few, c.if-self-bound.true) in
    let far : mid.state.steps < mid.limits.steps → mid.state.steps + 0 ≡ c.args.self.now.state.steps
    + c.args.most =
    (λ room. omega (
      arith,
      at,
      room,
      limits,
      same,
      ap (λ (m : Session). m.state.steps) c.self.view_is,
      ap (λ (m : Session). m.limits.steps) c.self.view_is,
      c.min-bound.ensures,
      c.saturating_add.ensures,
    )) in
    on_bound g.S.Screen.shows g.met.S.Screen.nothing g.met.S.Screen.twice g.P.Places.noted g.met.P.Places.twice
    g.S.Screen.full g.S.Screen.failed (c.args.self.now.state.steps + c.args.most) c.args.places.now
    c.go_ahead.new.places _ _ _ _ mid _ on c.loop-i.invariant.works far c.pause.ensures

pub returns-in-Err-step-clause-logged : goal.returns-in-Err-step-clause-logged
returns-in-Err-step-clause-logged g c =
    let mid = c.go_ahead.new.self in
    let start = c.loop-i.invariant.logged in
    let limits = ap (λ (m : Session). m.limits.steps) start.left in
    let same = ap (λ (l : Limits). l.steps) c.in-Ok.ensures.limits in
    let few : mid.state.steps ≤ mid.limits.steps = omega (
      arith,
      limits,
      same,
      c.in-Ok.ensures.few,
      c.loop-i.invariant.to,
    ) in
    let on = on_ahead g.S.Screen.shows g.met.S.Screen.nothing g.met.S.Screen.twice g.P.Places.noted
    g.met.P.Places.twice c.args.places.now c.loop-i.places c.go_ahead.new.places _ _ _ _ _ mid start
    c.in-Ok.ensures.ahead few in
    let steps = ap (λ (m : Session). m.state.steps) c.self-in-loop-i.view_is in
    let room : mid.state.steps < mid.limits.steps = omega (
      arith,
      steps,
      limits,
      same,
      c.loop-i.invariant.to,
      c.if-self-bound.false,
    ) in
    let here = ap (λ (m : Session). m.state.pc) c.self-in-loop-i.view_is in
    let one : g.P.Places.noted c.go_ahead.new.places c.note.new.self
    (mid.state.pc ∷ []) =
    subst (λ (pc : ℕ). g.P.Places.noted c.go_ahead.new.places c.note.new.self (pc ∷ [])) here c.note.ensures in
    on_end g.S.Screen.shows g.met.S.Screen.nothing g.met.S.Screen.twice g.P.Places.noted g.met.P.Places.twice
    g.S.Screen.full g.S.Screen.failed (c.args.self.now.state.steps + c.args.most) c.args.places.now
    c.go_ahead.new.places c.note.new.self _ _ _ _ _ mid _ _ on room c.loop-i.invariant.works one
    c.in-Err-step.ensures.step

pub returns-then-has_failed-clause-logged : goal.returns-then-has_failed-clause-logged
returns-then-has_failed-clause-logged g c =
    let mid = c.go_ahead.new.self in
    let start = c.loop-i.invariant.logged in
    let limits = ap (λ (m : Session). m.limits.steps) start.left in
    let same = ap (λ (l : Limits). l.steps) c.in-Ok.ensures.limits in
    let few : mid.state.steps ≤ mid.limits.steps = omega (
      arith,
      limits,
      same,
      c.in-Ok.ensures.few,
      c.loop-i.invariant.to,
    ) in
    let on = on_ahead g.S.Screen.shows g.met.S.Screen.nothing g.met.S.Screen.twice g.P.Places.noted
    g.met.P.Places.twice c.args.places.now c.loop-i.places c.go_ahead.new.places _ _ _ _ _ mid start
    c.in-Ok.ensures.ahead few in
    let steps = ap (λ (m : Session). m.state.steps) c.self-in-loop-i.view_is in
    let room : mid.state.steps < mid.limits.steps = omega (
      arith,
      steps,
      limits,
      same,
      c.loop-i.invariant.to,
      c.if-self-bound.false,
    ) in
    let here = ap (λ (m : Session). m.state.pc) c.self-in-loop-i.view_is in
    let one : g.P.Places.noted c.go_ahead.new.places c.note.new.self
    (mid.state.pc ∷ []) =
    subst (λ (pc : ℕ). g.P.Places.noted c.go_ahead.new.places c.note.new.self (pc ∷ [])) here c.note.ensures in
    let went = on_step g.S.Screen.shows g.met.S.Screen.nothing g.met.S.Screen.twice g.P.Places.noted
    g.met.P.Places.twice g.S.Screen.full g.S.Screen.failed (c.args.self.now.state.steps + c.args.most)
    c.args.places.now c.go_ahead.new.places c.note.new.self _ _ _ _ _ mid _ on room c.in-Ok-step.ensures.silent
    one c.in-Ok-step.ensures.step in
    on_failed g.S.Screen.shows g.met.S.Screen.nothing g.met.S.Screen.twice g.P.Places.noted g.met.P.Places.twice
    g.S.Screen.full g.S.Screen.failed (c.args.self.now.state.steps + c.args.most) _ _ _ _ _ _ _ went
    c.loop-i.invariant.works (sym c.has_failed.ensures ∙ c.if-has_failed.true)

pub returns-then-is_full-clause-logged : goal.returns-then-is_full-clause-logged
returns-then-is_full-clause-logged g c =
    let mid = c.go_ahead.new.self in
    let start = c.loop-i.invariant.logged in
    let limits = ap (λ (m : Session). m.limits.steps) start.left in
    let same = ap (λ (l : Limits). l.steps) c.in-Ok.ensures.limits in
    let few : mid.state.steps ≤ mid.limits.steps = omega (
      arith,
      limits,
      same,
      c.in-Ok.ensures.few,
      c.loop-i.invariant.to,
    ) in
    let on = on_ahead g.S.Screen.shows g.met.S.Screen.nothing g.met.S.Screen.twice g.P.Places.noted
    g.met.P.Places.twice c.args.places.now c.loop-i.places c.go_ahead.new.places _ _ _ _ _ mid start
    c.in-Ok.ensures.ahead few in
    let steps = ap (λ (m : Session). m.state.steps) c.self-in-loop-i.view_is in
    let room : mid.state.steps < mid.limits.steps = omega (
      arith,
      steps,
      limits,
      same,
      c.loop-i.invariant.to,
      c.if-self-bound.false,
    ) in
    let here = ap (λ (m : Session). m.state.pc) c.self-in-loop-i.view_is in
    let one : g.P.Places.noted c.go_ahead.new.places c.note.new.self
    (mid.state.pc ∷ []) =
    subst (λ (pc : ℕ). g.P.Places.noted c.go_ahead.new.places c.note.new.self (pc ∷ [])) here c.note.ensures in
    let went = on_step g.S.Screen.shows g.met.S.Screen.nothing g.met.S.Screen.twice g.P.Places.noted
    g.met.P.Places.twice g.S.Screen.full g.S.Screen.failed (c.args.self.now.state.steps + c.args.most)
    c.args.places.now c.go_ahead.new.places c.note.new.self _ _ _ _ _ mid _ on room c.in-Ok-step.ensures.silent
    one c.in-Ok-step.ensures.step in
    on_full g.S.Screen.shows g.met.S.Screen.nothing g.met.S.Screen.twice g.P.Places.noted g.met.P.Places.twice
    g.S.Screen.full g.S.Screen.failed (c.args.self.now.state.steps + c.args.most) _ _ _ _ _ _ _ went
    (sym c.has_failed.ensures ∙ c.if-has_failed.false) c.loop-i.invariant.room
    (sym c.is_full.ensures ∙ c.if-is_full.true)

pub returns-clause-logged : goal.returns-clause-logged
returns-clause-logged g c =
    let at : c.loop-i.self.state.steps ≡ c.min-bound.result = omega (
      arith,
      c.loop-i-test.false,
      c.loop-i.invariant.count,
      c.loop-i.invariant.under,
    ) in
    let limits = ap (λ (m : Session). m.limits.steps) c.loop-i.invariant.logged.left in
    let far : c.loop-i.self.state.steps < c.loop-i.self.limits.steps
    → c.loop-i.self.state.steps + 0 ≡ c.args.self.now.state.steps + c.args.most =
    (λ room. omega (
      arith,
      at,
      room,
      limits,
      ap (λ (m : Session). m.state.steps) c.self.view_is,
      ap (λ (m : Session). m.limits.steps) c.self.view_is,
      c.min-bound.ensures,
      c.saturating_add.ensures,
    )) in
    on_bound g.S.Screen.shows g.met.S.Screen.nothing g.met.S.Screen.twice g.P.Places.noted g.met.P.Places.twice
    g.S.Screen.full g.S.Screen.failed (c.args.self.now.state.steps + c.args.most) c.args.places.now
    c.loop-i.places _ _ _ _ _ _ c.loop-i.invariant.logged c.loop-i.invariant.works far c.pause-2.ensures
