use Rattle.std.proofs.Common.{rules, ◌≡◌, ◌∙◌, sym, None, Some}
use Rattle.clap.specs.Words.{first_value, found_of, rows_of}
use Rattle.clap.proofs.WalkLemmas.{first_value-rows}
use Rattle.zk_command.proofs.CommandLines.{flag_by, no_flag}
use Rattle.zk_command.proofs.choice.has_flag.Goals as goal

pub returns-in-Some : goal.returns-in-Some
returns-in-Some c =
    let found = found_of c.args.matches.now in
    let text : first_value found c.args.name.now ≡ Some c.in-Some.argument.now = search rules in
    flag_by (rows_of found) c.args.name.now c.in-Some.argument.now _ (sym (first_value-rows found c.args.name.now)
    ∙ text) c.eq.ensures

pub returns-in-None : goal.returns-in-None
returns-in-None c =
    let found = found_of c.args.matches.now in
    let text : first_value found c.args.name.now ≡ None = search rules in
    no_flag (rows_of found) c.args.name.now (sym (first_value-rows found c.args.name.now) ∙ text)
