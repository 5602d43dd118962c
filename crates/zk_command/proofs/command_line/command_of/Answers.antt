use Rattle.std.proofs.Common.{◌∙◌, add-one, sym, ap₂}
use Rattle.std.proofs.lemmas.List.{take_all}
use Rattle.clap.specs.Words.{with_rule}
use Rattle.zk_command.specs.CommandLine.{option_rule}
use Rattle.zk_command.proofs.CommandLines.{rules_more}
use Rattle.zk_command.proofs.command_line.command_of.Goals as goal

pub loop-option-preserved : goal.loop-option-preserved
loop-option-preserved c = record {
  shape =
      rw (add-one c.loop-option.option-index) (c.in_ok-command-2.ensures.shape
      ∙ ap₂ with_rule c.loop-option.invariant.shape c.option_of.ensures.rule
      ∙ sym (rules_more option_rule _ c.args.table.options.now c.loop-option.option-index _ c.loop-option-test.true));
  local = c.in_ok-command-2.ensures.local;
}

pub returns-clause-shape : goal.returns-clause-shape
returns-clause-shape c =
    rw (take_all c.loop-option.option-index c.args.table.options.now c.loop-option-test.false) at
    c.loop-option.invariant.shape
