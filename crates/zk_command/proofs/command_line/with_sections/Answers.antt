use Rattle.std.proofs.Common.{◌∙◌, add-one, sym, ap₂}
use Rattle.std.proofs.lemmas.List.{take_all}
use Rattle.clap.specs.Words.{with_rule}
use Rattle.zk_command.specs.CommandLine.{section_rule}
use Rattle.zk_command.proofs.CommandLines.{rules_more}
use Rattle.zk_command.proofs.command_line.with_sections.Goals as goal

pub loop-section-preserved : goal.loop-section-preserved
loop-section-preserved c = record {
  shape =
      rw (add-one c.loop-section.section-index) (c.in_ok-command.ensures.shape
      ∙ ap₂ with_rule c.loop-section.invariant.shape c.section_option_of.ensures.rule
      ∙ sym (rules_more section_rule _ c.args.sections.now c.loop-section.section-index _ c.loop-section-test.true));
  local = c.in_ok-command.ensures.local;
}

pub returns-clause-shape : goal.returns-clause-shape
returns-clause-shape c =
    rw (take_all c.loop-section.section-index c.args.sections.now c.loop-section-test.false) at
    c.loop-section.invariant.shape
