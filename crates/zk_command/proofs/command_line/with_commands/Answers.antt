use Rattle.std.proofs.Common.{◌∙◌, add-one, ap, ap₂, sym}
use Rattle.std.proofs.lemmas.List.{take_all}
use Rattle.clap.specs.Words.{App, with_subcommand}
use Rattle.zk_command.specs.CommandLine.{with_tables}
use Rattle.zk_command.proofs.CommandLines.{tables_more}
use Rattle.zk_command.proofs.command_line.with_commands.Goals as goal

pub loop-table-preserved : goal.loop-table-preserved
loop-table-preserved c = record {
  shape = rw (add-one c.loop-table.table-index) (c.in_ok-line.ensures.shape c.in_ok-command.ensures.local
      ∙ ap₂ with_subcommand c.loop-table.invariant.shape (ap (λ (b : App). b.top) c.in_ok-command.ensures.shape)
      ∙ sym (tables_more _ c.args.tables.now c.loop-table.table-index _ c.loop-table-test.true));
}

pub returns : goal.returns
returns c =
    λ a is. (rw (take_all c.loop-table.table-index c.args.tables.now c.loop-table-test.false) at
    c.loop-table.invariant.shape)
    ∙ ap (λ (b : App). with_tables b c.args.tables.now) is
