use Rattle.std.proofs.Common.{◌≡◌, false, take}
use Rattle.std.specs.Prelude.{map}
use Rattle.clap.specs.Words.{app_of, new_app}
use Rattle.clap.specs.declared.Command.TheViews.{out-Command as fields_of}
use Rattle.zk_command.specs.CommandLine.{option_rule, section_rule, with_rules}
use Rattle.zk_command.proofs.command_line.command_of.Given as goal

abbrev pub invariant-loop-option : goal.invariant-loop-option
invariant-loop-option l = record {
  shape : app_of l.command
      ≡ with_rules (with_rules (new_app l.fn.table.name.now) (map section_rule l.fn.table.sections.now))
      (map option_rule (take l.option-index l.fn.table.options.now));
  local : (fields_of l.command).has_globals ≡ false;
}
