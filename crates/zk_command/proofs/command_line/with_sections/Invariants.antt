use Rattle.std.proofs.Common.{◌≡◌, false, take}
use Rattle.std.specs.Prelude.{map}
use Rattle.clap.specs.Words.{app_of}
use Rattle.clap.specs.declared.Command.TheViews.{out-Command as fields_of}
use Rattle.zk_command.specs.CommandLine.{section_rule, with_rules}
use Rattle.zk_command.proofs.command_line.with_sections.Given as goal

abbrev pub invariant-loop-section : goal.invariant-loop-section
invariant-loop-section l = record {
  shape : app_of l.command ≡ with_rules (app_of l.fn.command) (map section_rule (take l.section-index l.sections));
  local : (fields_of l.command).has_globals ≡ false;
}
