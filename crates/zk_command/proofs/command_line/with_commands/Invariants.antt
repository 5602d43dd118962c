use Rattle.std.proofs.Common.{◌≡◌, take}
use Rattle.clap.specs.Words.{app_of}
use Rattle.zk_command.specs.CommandLine.{with_tables}
use Rattle.zk_command.proofs.command_line.with_commands.Given as goal

abbrev pub invariant-loop-table : goal.invariant-loop-table
invariant-loop-table l = record {
  shape : app_of l.line ≡ with_tables (app_of l.fn.line) (take l.table-index l.tables);
}
