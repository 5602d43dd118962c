use Rattle.std.proofs.Common.{rules, ◌≡◌, ◌∙◌, inr, Ok, Err, ap, sym, refl}
use Rattle.zk_vm.specs.declared.machine.pausing.Reached.TheVariants as reached
use Rattle.zk_vm.specs.Sessions.{Session}
use Rattle.zk_host.proofs.Running.{come_as, has_paused, lost_run, whole_run}
use Rattle.zk_host.proofs.play.Play.run.Goals as goal

pub returns-then-is_lost : goal.returns-then-is_lost
returns-then-is_lost c =
    let lost = sym c.is_lost.ensures ∙ c.if-is_lost.true in
    let ends = lost_run c.run_noting-ran.result c.args.self.now.machine c.run_noting-ran.new.machine c.close.new.self
    c.args.self.now.text c.run_noting-ran.new.text _ c.run_noting-ran.ensures.logged lost
    (ap (λ (s : Session). s.stopped) c.close.ensures) (ap (λ (s : Session). s.waiting) c.close.ensures) in
    (ends, refl)

pub returns-in-Ok-Answer : goal.returns-in-Ok-Answer
returns-in-Ok-Answer c =
    let works = sym c.is_lost.ensures ∙ c.if-is_lost.false in
    let told : c.run_noting-ran.result ≡ Ok (reached.Answer c.in-Ok-Answer.event) = search rules in
    let come = come_as c.run_noting-ran.result (Ok (reached.Answer c.in-Ok-Answer.event)) c.args.self.now.machine
    c.run_noting-ran.new.machine c.args.self.now.text c.run_noting-ran.new.text _ told
    c.run_noting-ran.ensures.logged in (
      whole_run c.args.self.now.machine c.run_noting-ran.new.machine c.args.self.now.text c.run_noting-ran.new.text _
          come.0 (Ok c.in-Ok-Answer.event) come.1 tt works,
      search rules,
    )

pub returns-in-Ok-Pause : goal.returns-in-Ok-Pause
returns-in-Ok-Pause c =
    let told : c.run_noting-ran.result ≡ Ok reached.Pause = search rules in
    let come = come_as c.run_noting-ran.result (Ok reached.Pause) c.args.self.now.machine c.run_noting-ran.new.machine
    c.args.self.now.text c.run_noting-ran.new.text _ told c.run_noting-ran.ensures.logged in
    has_paused c.args.self.now _ c.args.steps c.pause.result c.pause.ensures come refl

pub returns-in-Ok-NoMemory : goal.returns-in-Ok-NoMemory
returns-in-Ok-NoMemory c =
    let told : c.run_noting-ran.result ≡ Ok reached.NoMemory = search rules in
    let come = come_as c.run_noting-ran.result (Ok reached.NoMemory) c.args.self.now.machine
    c.run_noting-ran.new.machine c.args.self.now.text c.run_noting-ran.new.text _ told
    c.run_noting-ran.ensures.logged in
    inr (come, refl)

pub returns-in-Err : goal.returns-in-Err
returns-in-Err c =
    let works = sym c.is_lost.ensures ∙ c.if-is_lost.false in
    let come = c.in-Err.ensures.logged in (
      whole_run c.args.self.now.machine c.run_noting-ran.new.machine c.args.self.now.text c.run_noting-ran.new.text _
          come.0 (Err c.in-Err.stop) come.1 c.in-Err.ensures.stops works,
      search rules,
    )
