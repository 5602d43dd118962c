use Rattle.std.proofs.Common.{rules, ◌≡◌, codes, true}
use Rattle.std.proofs.lemmas.Result.{IfOk-weaker}
use Rattle.clap.specs.Words.{app_of, new_app}
use Rattle.clap.specs.Simple.{on_top}
use Rattle.zk_command.proofs.command_line.command_line_of.Goals as goal

pub returns : goal.returns
returns c =
    let base : app_of c.subcommand_required-line.result ≡ on_top
    (λ s. record s { has_version = true; subcommand_required = true }) (new_app (codes "zkit")) = search rules in
    IfOk-weaker c.with_commands.result _ _ (λ r h. h _ base) c.with_commands.ensures
