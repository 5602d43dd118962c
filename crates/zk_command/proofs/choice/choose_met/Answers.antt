use Rattle.std.proofs.Common.{rules, ◌≡◌, None, inr}
use Rattle.clap.specs.Words.{subcommand_name_of}
use Rattle.zk_command.proofs.CommandLines.{without_command}
use Rattle.zk_command.proofs.choice.choose_met.Goals as goal

pub returns-in_default-clause-refused : goal.returns-in_default-clause-refused
returns-in_default-clause-refused c =
    let named : subcommand_name_of c.args.matches.now ≡ None = search rules in
    inr (c.usage_error.ensures, without_command c.args.matches.now named)
