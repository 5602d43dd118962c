use Rattle.std.proofs.Common.{rules, ◌≡◌, Option, Some, Ok, option_copied, refl, subst, sym, ◌∙◌, ap, ℕ}
use Rattle.zk_step.specs.declared.state.ending.Event.{Event}
use Rattle.zk_step.specs.declared.state.ending.Event.TheVariants.{Restore}
use Rattle.zk_vm.specs.Answers.Answer.{File}
use Rattle.zk_host.specs.Calls.{awaited, restore_refused, with_height_kept, IsRestoredUnless}
use Rattle.zk_host.proofs.play.Play.restore.Goals as goal

pub returns : goal.returns
returns c =
    let waits : awaited c.args.self.now ≡ Some Restore = search rules in
    let height : c.height-height.result ≡ c.args.self.now.machine.state.game.windows.height = search rules in
    subst (λ (event : Option Event). IsRestoredUnless (restore_refused event) c.args.self.now
    (record c.args.self.now { machine = c.keep_height.new.machine }) (Ok tt) (File (option_copied c.args.file)))
    (sym waits) (
      refl,
      record {
        before = c.answer_restore.new.self;
        answered = c.answer_restore.ensures.left;
        machine = c.keep_height.ensures ∙ ap (λ (h : ℕ). with_height_kept h c.answer_restore.new.self) height;
        beside = refl;
      },
    )
