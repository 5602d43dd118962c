use Rattle.std.proofs.Common.{◌≡◌, ◌∙◌, ◌||◌, false, ap, refl}
use Rattle.zk_vm.proofs.LogPlays.{asked_runs, log_begins, log_goes, log_lacks, log_over}
use Rattle.zk_vm.proofs.Turns.{either_false, fewer_steps}
use Rattle.zk_vm.proofs.play.turn.Goals as goal

pub loop-event-init : goal.loop-event-init
loop-event-init g c = record {
  free = c.requires.free;
  screen_works = c.requires.screen_works;
  script_works = c.requires.script_works;
  limits = refl;
  reads = λ e. refl;
  logged = log_begins _ g.P.Places.noted g.met.P.Places.twice _ _ _ _ (g.met.P.Places.nothing _);
}

pub returns-then-is_read-clause-logged : goal.returns-then-is_read-clause-logged
returns-then-is_read-clause-logged g c =
    log_over _ g.P.Places.noted g.met.P.Places.twice _ c.loop-event.machine c.run_on.new.machine _ _ _ _ _ _ _ _ _ _
    c.loop-event.invariant.logged c.in-Ok.ensures.logged

pub returns-then-is_read-clause-same_reads : goal.returns-then-is_read-clause-same_reads
returns-then-is_read-clause-same_reads g c =
    c.in-Ok.ensures.same_reads ∙ c.loop-event.invariant.reads
    (asked_runs _ _ _ _ _ _ c.loop-event.invariant.free c.in-Ok.ensures.logged)

pub returns-then-is_read-clause-limits : goal.returns-then-is_read-clause-limits
returns-then-is_read-clause-limits g c = c.in-Ok.ensures.limits ∙ c.loop-event.invariant.limits

pub loop-event-smaller : goal.loop-event-smaller
loop-event-smaller g c =
    let runs = asked_runs _ _ _ _ _ _ c.loop-event.invariant.free c.in-Ok.ensures.logged in
    fewer_steps c.serve.new.machine.stopped c.loop-event.machine.stopped c.loop-event.machine.state.steps
    c.run_on.new.machine.state.steps c.serve.new.machine.state.steps c.loop-event.machine.limits.steps
    c.serve.new.machine.limits.steps runs
    (ap (λ x. x.steps) (c.serve.ensures.limits ∙ c.run_on.ensures.limits)) c.in-Ok.ensures.steps.0
    (rw (← c.run_on.ensures.limits) c.in-Ok.ensures.steps.1) c.in-Ok-serve.ensures.counted

pub loop-event-preserved : goal.loop-event-preserved
loop-event-preserved g c =
    let written : (g.S.Target.failed c.run_on.new.screen || g.T.Target.failed c.run_on.new.script)
    ≡ false = c.in-Ok.ensures.logged.ends.0 in
    let works = either_false (g.S.Target.failed c.run_on.new.screen) (g.T.Target.failed c.run_on.new.script) written in
    record {
      free = c.serve.ensures.free;
      screen_works = works.0;
      script_works = works.1;
      limits = c.serve.ensures.limits ∙ c.run_on.ensures.limits ∙ c.loop-event.invariant.limits;
      reads = λ e. c.in-Ok-serve.ensures.reads e ∙ c.in-Ok.ensures.same_reads
          ∙ c.loop-event.invariant.reads (asked_runs _ _ _ _ _ _ c.loop-event.invariant.free c.in-Ok.ensures.logged);
      logged = log_goes _ g.P.Places.noted g.met.P.Places.twice _ c.loop-event.machine c.run_on.new.machine
          c.serve.new.machine _ _ _ _ _ _ _ _ _ _ c.loop-event.invariant.logged
          (rw written at c.in-Ok.ensures.logged) c.in-Ok-serve.ensures.served;
    }

pub returns-in-Err-serve-clause-logged : goal.returns-in-Err-serve-clause-logged
returns-in-Err-serve-clause-logged g c =
    let u = c.in-Err-serve.ensures.unserved in
    let written : (g.S.Target.failed c.run_on.new.screen || g.T.Target.failed c.run_on.new.script)
    ≡ false = c.in-Ok.ensures.logged.ends.0 in
    rw (written, u.0, u.2) (log_lacks _ g.P.Places.noted g.met.P.Places.twice _ c.loop-event.machine
    c.run_on.new.machine _ _ c.serve.new.slot _ _ _ _ _ _ _ c.loop-event.invariant.logged
    (rw written at c.in-Ok.ensures.logged) u.1 u.3)

pub returns-in-Err-serve-clause-limits : goal.returns-in-Err-serve-clause-limits
returns-in-Err-serve-clause-limits g c =
    c.serve.ensures.limits ∙ c.run_on.ensures.limits ∙ c.loop-event.invariant.limits

pub returns-in-Err-clause-logged : goal.returns-in-Err-clause-logged
returns-in-Err-clause-logged g c = log_over _ g.P.Places.noted g.met.P.Places.twice _ c.loop-event.machine
    c.run_on.new.machine _ _ _ _ _ _ _ _ _ _ c.loop-event.invariant.logged c.in-Err.ensures.logged

pub returns-in-Err-clause-limits : goal.returns-in-Err-clause-limits
returns-in-Err-clause-limits g c = c.in-Err.ensures.limits ∙ c.loop-event.invariant.limits
