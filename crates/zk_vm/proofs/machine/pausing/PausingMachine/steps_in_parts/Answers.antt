use Rattle.std.proofs.Common.{◌≡◌, ◌∙◌, ◌<◌, ◌+◌, ap, sym, refl, arith}
use Rattle.zk_vm.specs.declared.limits.Limits.{Limits}
use Rattle.zk_vm.specs.Sessions.{Session}
use Rattle.zk_vm.proofs.PausedRuns.{come_bound, ran_after, ran_failed, ran_full, short_after, went_both, went_none}
use Rattle.zk_vm.proofs.PausedRuns.{went_one}
use Rattle.zk_vm.proofs.machine.pausing.PausingMachine.steps_in_parts.Goals as goal

pub loop-i-init : goal.loop-i-init
loop-i-init g c = record {
  went = went_none g.S.Screen.shows g.met.S.Screen.nothing g.met.S.Screen.twice c.args.screen.now c.args.self.now
      (record { runs = c.requires.runs; free = c.requires.free; silent = c.requires.silent });
  reads = refl;
  more = omega arith;
  limits = refl;
  count = omega arith;
  few = omega arith;
  within = rw (← c.self.view_is) c.steps_made.ensures.within;
  part = omega arith;
  end = omega (arith, c.steps_made.ensures.value, ap (λ (m : Session). m.state.steps) c.self.view_is);
  works = c.requires.works;
  room = c.requires.room;
}

pub returns-in-Err-clause-logged : goal.returns-in-Err-clause-logged
returns-in-Err-clause-logged g c = (
  c.loop-i.parts,
  ran_after g.S.Screen.shows g.met.S.Screen.nothing g.met.S.Screen.twice g.S.Screen.full
      g.S.Screen.failed _ 0 c.loop-i.parts 0 c.loop-i.parts _ _ _ _ _ _ c.in-Err.halt (omega arith)
      c.loop-i.invariant.went c.loop-i.invariant.works c.in-Err.ensures.ends,
)

pub returns-then-steps_made-bound-clause-logged : goal.returns-then-steps_made-bound-clause-logged
returns-then-steps_made-bound-clause-logged g c =
    let mid = c.go_ahead.new.self in
    let inv = c.loop-i.invariant in
    let went = went_both g.S.Screen.shows g.met.S.Screen.nothing g.met.S.Screen.twice c.loop-i.parts 0
    c.loop-i.parts _ _ _ _ _ _ (omega arith) inv.went c.in-Ok.ensures.on in
    let steps = ap (λ (m : Session). m.state.steps) c.self-in-loop-i-2.view_is in
    let limit = ap (λ (m : Session). m.limits.steps) c.self-in-loop-i.view_is in
    let told = ap (λ (l : Limits). l.steps) c.limits-limit.ensures in
    let same = ap (λ (l : Limits). l.steps) c.in-Ok.ensures.limits in
    let at : mid.state.steps < mid.limits.steps → mid.state.steps + c.loop-i.parts ≡ c.args.self.now.state.steps
    + c.args.most =
    (λ room. omega (
      arith,
      room,
      steps,
      limit,
      told,
      same,
      c.steps_made-in-loop-i.ensures.value,
      c.if-steps_made-bound.true,
      c.min-bound.ensures,
      c.in-Ok.ensures.few,
      inv.end,
      inv.few,
    )) in
    come_bound g.S.Screen.shows g.met.S.Screen.nothing g.met.S.Screen.twice g.S.Screen.full g.S.Screen.failed _
    c.loop-i.parts _ _ _ mid c.pause.result went inv.works at c.pause.ensures

pub returns-in-Err-step-clause-logged : goal.returns-in-Err-step-clause-logged
returns-in-Err-step-clause-logged g c =
    let inv = c.loop-i.invariant in
    let went = went_both g.S.Screen.shows g.met.S.Screen.nothing g.met.S.Screen.twice c.loop-i.parts 0
    c.loop-i.parts _ _ _ _ _ _ (omega arith) inv.went c.in-Ok.ensures.on in (
      c.loop-i.parts,
      ran_after g.S.Screen.shows g.met.S.Screen.nothing g.met.S.Screen.twice g.S.Screen.full
          g.S.Screen.failed _ 0 c.loop-i.parts 0 c.loop-i.parts _ _ _ _ _ _ c.in-Err-step.halt (omega arith) went
          inv.works c.in-Err-step.ensures.ends,
    )

pub returns-in-Ok-None-clause-logged : goal.returns-in-Ok-None-clause-logged
returns-in-Ok-None-clause-logged g c =
    let mid = c.go_ahead.new.self in
    let inv = c.loop-i.invariant in
    let went = went_both g.S.Screen.shows g.met.S.Screen.nothing g.met.S.Screen.twice c.loop-i.parts 0
    c.loop-i.parts _ _ _ _ _ _ (omega arith) inv.went c.in-Ok.ensures.on in
    let steps = ap (λ (m : Session). m.state.steps) c.self-in-loop-i-2.view_is in
    let limit = ap (λ (m : Session). m.limits.steps) c.self-in-loop-i.view_is in
    let told = ap (λ (l : Limits). l.steps) c.limits-limit.ensures in
    let same = ap (λ (l : Limits). l.steps) c.in-Ok.ensures.limits in
    let few : mid.state.steps + c.loop-i.parts < c.args.self.now.state.steps + c.args.most = omega (
      arith,
      steps,
      limit,
      told,
      same,
      c.steps_made-in-loop-i.ensures.value,
      c.if-steps_made-bound.false,
      c.min-bound.ensures,
      inv.end,
    ) in
    let room : mid.state.steps < mid.limits.steps = omega (
      arith,
      steps,
      limit,
      told,
      same,
      c.steps_made-in-loop-i.ensures.value,
      c.if-steps_made-bound.false,
      c.min-bound.ensures,
    ) in
    let short = (rw c.in-Ok-None.field-0-is at c.in-Ok-None.ensures.short) refl in (
      c.loop-i.parts,
      short_after g.S.Screen.shows g.met.S.Screen.nothing g.met.S.Screen.twice g.S.Screen.failed _
          c.loop-i.parts _ _ _ _ mid c.step.new.self went inv.works short.0 short.2 short.1 few room,
    )

pub returns-then-has_failed-clause-logged : goal.returns-then-has_failed-clause-logged
returns-then-has_failed-clause-logged g c =
    let on = rw c.in-Ok-Some.field-0-is at c.in-Ok-Some.ensures.on in
    let inv = c.loop-i.invariant in
    let went = went_both g.S.Screen.shows g.met.S.Screen.nothing g.met.S.Screen.twice c.loop-i.parts 0
    c.loop-i.parts _ _ _ _ _ _ (omega arith) inv.went c.in-Ok.ensures.on in (
      c.loop-i.parts + c.in-Ok-Some.shown,
      ran_failed g.S.Screen.shows g.met.S.Screen.nothing g.met.S.Screen.twice
          g.S.Screen.full g.S.Screen.failed _ c.loop-i.parts c.in-Ok-Some.shown _ _ _ _ _ _ _ refl went on inv.works
          (sym c.has_failed.ensures ∙ c.if-has_failed.true),
    )

pub returns-then-is_full-clause-logged : goal.returns-then-is_full-clause-logged
returns-then-is_full-clause-logged g c =
    let on = rw c.in-Ok-Some.field-0-is at c.in-Ok-Some.ensures.on in
    let inv = c.loop-i.invariant in
    let went = went_both g.S.Screen.shows g.met.S.Screen.nothing g.met.S.Screen.twice c.loop-i.parts 0
    c.loop-i.parts _ _ _ _ _ _ (omega arith) inv.went c.in-Ok.ensures.on in (
      c.loop-i.parts + c.in-Ok-Some.shown,
      ran_full g.S.Screen.shows g.met.S.Screen.nothing g.met.S.Screen.twice
          g.S.Screen.full g.S.Screen.failed _ c.loop-i.parts c.in-Ok-Some.shown _ _ _ _ _ _ _ refl went on
          (sym c.has_failed.ensures ∙ c.if-has_failed.false) inv.room (sym c.is_full.ensures ∙ c.if-is_full.true),
    )

pub loop-i-preserved : goal.loop-i-preserved
loop-i-preserved g c =
    let on = rw c.in-Ok-Some.field-0-is at c.in-Ok-Some.ensures.on in
    let counted = rw c.in-Ok-Some.field-0-is at c.in-Ok-Some.ensures.counted in
    let mid = c.go_ahead.new.self in
    let inv = c.loop-i.invariant in
    let went = went_both g.S.Screen.shows g.met.S.Screen.nothing g.met.S.Screen.twice c.loop-i.parts 0
    c.loop-i.parts _ _ _ _ _ _ (omega arith) inv.went c.in-Ok.ensures.on in
    let steps = ap (λ (m : Session). m.state.steps) c.self-in-loop-i-2.view_is in
    let limit = ap (λ (m : Session). m.limits.steps) c.self-in-loop-i.view_is in
    let told = ap (λ (l : Limits). l.steps) c.limits-limit.ensures in
    let same = ap (λ (l : Limits). l.steps) c.in-Ok.ensures.limits in
    let then = ap (λ (l : Limits). l.steps) c.in-Ok-Some.ensures.limits in
    record {
      went = went_both g.S.Screen.shows g.met.S.Screen.nothing g.met.S.Screen.twice c.loop-i.parts
          c.in-Ok-Some.shown (c.loop-i.parts + c.in-Ok-Some.shown) _ _ _ _ _ _ refl went
          (went_one g.S.Screen.shows g.met.S.Screen.nothing g.met.S.Screen.twice c.in-Ok-Some.shown _ _ _ _ on);
      reads = c.in-Ok-Some.ensures.reads ∙ c.in-Ok.ensures.reads ∙ inv.reads;
      more = omega (arith, c.in-Ok-Some.ensures.more, c.in-Ok.ensures.more, inv.more);
      limits = c.in-Ok-Some.ensures.limits ∙ c.in-Ok.ensures.limits ∙ inv.limits;
      count = omega (arith, counted, c.in-Ok.ensures.more, inv.count);
      few =
          omega (
            arith,
            steps,
            limit,
            told,
            same,
            c.steps_made-in-loop-i.ensures.value,
            c.if-steps_made-bound.false,
            c.min-bound.ensures,
            counted,
            inv.end,
          );
      within =
          omega (
            arith,
            steps,
            limit,
            told,
            same,
            then,
            c.steps_made-in-loop-i.ensures.value,
            c.if-steps_made-bound.false,
            c.min-bound.ensures,
            counted,
          );
      part = omega (arith, counted, c.in-Ok-Some.ensures.more, inv.part);
      end = inv.end;
      works = sym c.has_failed.ensures ∙ c.if-has_failed.false;
      room = sym c.is_full.ensures ∙ c.if-is_full.false;
    }

pub returns-clause-logged : goal.returns-clause-logged
returns-clause-logged g c =
    let inv = c.loop-i.invariant in
    let at : c.loop-i.self.state.steps < c.loop-i.self.limits.steps
    → c.loop-i.self.state.steps + c.loop-i.parts ≡ c.args.self.now.state.steps + c.args.most =
    (λ room. omega (arith, c.loop-i-test.false, inv.count, inv.few)) in
    come_bound g.S.Screen.shows g.met.S.Screen.nothing g.met.S.Screen.twice g.S.Screen.full g.S.Screen.failed _
    c.loop-i.parts _ _ _ c.loop-i.self c.pause-2.result inv.went inv.works at c.pause-2.ensures
