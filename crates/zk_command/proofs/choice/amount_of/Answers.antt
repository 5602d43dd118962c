use Rattle.std.proofs.Common.{rules, ◌≡◌, ◌∙◌, sym, None, Some}
use Rattle.clap.specs.Words.{first_value, found_of, rows_of}
use Rattle.clap.proofs.WalkLemmas.{first_value-rows}
use Rattle.zk_command.specs.CommandLine.{word_of}
use Rattle.zk_command.proofs.CommandLines.{amount_said, no_amount_said}
use Rattle.zk_command.proofs.choice.amount_of.Goals as goal

pub returns-in_default-clause-says : goal.returns-in_default-clause-says
returns-in_default-clause-says c =
    let found = found_of c.args.play.now in
    let name = c.args.number.name.now in
    let text : first_value found name ≡ None = search rules in
    sym (first_value-rows found name) ∙ text

pub returns-in-Some-amount_from-clause-says : goal.returns-in-Some-amount_from-clause-says
returns-in-Some-amount_from-clause-says c =
    let found = found_of c.args.play.now in
    let n = c.args.number in
    let text : first_value found n.name.now ≡ Some c.in-Some.argument.now = search rules in
    amount_said (rows_of found) n.name.now n.least n.most (word_of n) c.in-Some.argument.now
    c.in-Some-amount_from.amount (sym (first_value-rows found n.name.now) ∙ text) c.in-Some-amount_from.ensures.says

pub returns-in-None-clause-says_none : goal.returns-in-None-clause-says_none
returns-in-None-clause-says_none c =
    let found = found_of c.args.play.now in
    let n = c.args.number in
    let text : first_value found n.name.now ≡ Some c.in-Some.argument.now = search rules in
    no_amount_said (rows_of found) n.name.now n.least n.most (word_of n) c.in-Some.argument.now
    (sym (first_value-rows found n.name.now) ∙ text) c.in-None.ensures.none
