use Rattle.std.proofs.Common.{rules, ◌≡◌, ◌∙◌, sym, None, Some}
use Rattle.clap.specs.Words.{first_value, found_of, rows_of}
use Rattle.clap.proofs.WalkLemmas.{first_value-rows}
use Rattle.zk_command.proofs.CommandLines.{none_said, number_not_said, number_said}
use Rattle.zk_command.proofs.choice.number_of.Goals as goal

pub returns-clause-says : goal.returns-clause-says
returns-clause-says c =
    let found = found_of c.args.matches.now in
    let text : first_value found c.args.number.name.now ≡ Some c.in-Some.argument.now = search rules in
    number_said (rows_of found) c.args.number.name.now c.args.number.least c.args.number.most
    c.in-Some.argument.now c.number_from.result (sym (first_value-rows found c.args.number.name.now) ∙ text)
    c.number_from.ensures

pub returns-clause-none : goal.returns-clause-none
returns-clause-none c =
    let found = found_of c.args.matches.now in
    let text : first_value found c.args.number.name.now ≡ Some c.in-Some.argument.now = search rules in
    number_not_said (rows_of found) c.args.number.name.now c.args.number.least c.args.number.most
    c.in-Some.argument.now c.number_from.result (sym (first_value-rows found c.args.number.name.now) ∙ text)
    c.number_from.ensures

pub returns-in_default-clause-none : goal.returns-in_default-clause-none
returns-in_default-clause-none c =
    let found = found_of c.args.matches.now in
    let text : first_value found c.args.number.name.now ≡ None = search rules in
    none_said (rows_of found) c.args.number.name.now c.args.number.least c.args.number.most
    (sym (first_value-rows found c.args.number.name.now) ∙ text)
