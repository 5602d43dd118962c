use Rattle.std.proofs.Common.{◌∙◌, add-one, ap, sym}
use Rattle.clap.specs.Words.{Text, first_of, found_of, rows_of}
use Rattle.zk_inspect.specs.Sections.{all_sections, section_name}
use Rattle.zk_inspect.specs.declared.section.Section.{Section}
use Rattle.zk_command.specs.CommandLine.{flag_said}
use Rattle.zk_command.proofs.CommandLines.{kept_less, kept_more}
use Rattle.zk_command.proofs.choice.sections_named.Goals as goal
use Rattle.zk_command.proofs.choice.sections_named.Goals.{then-has_flag+in_ok-push, else-has_flag}

pub loop-section-preserved : goal.loop-section-preserved
loop-section-preserved c =
    let rows = rows_of (found_of c.args.found.now) in
    let test = λ (s : Section). flag_said (first_of (section_name s) rows) in
    let said = c.has_flag.ensures ∙ ap (λ (name : Text). flag_said (first_of name rows)) c.name.ensures in
    rw (add-one c.loop-section.section-index) (elim c.if-has_flag.branch [
      | then-has_flag+in_ok-push w ↦ kept_more test all_sections c.loop-section.section-index _ _ _
          c.loop-section-test.true c.loop-section.invariant
          (ap (λ v. v.items) w.sections-is ∙ w.in_ok-push.ensures.items) (sym w.if-has_flag.true ∙ said)
      | else-has_flag w ↦ kept_less test all_sections c.loop-section.section-index _ _ _
          c.loop-section-test.true c.loop-section.invariant
          (ap (λ v. v.items) w.sections-is) (sym w.if-has_flag.false ∙ said)
    ])
