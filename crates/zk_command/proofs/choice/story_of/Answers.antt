use Rattle.std.proofs.Common.{rules, ◌≡◌, ◌∙◌, sym, codes, None, Some}
use Rattle.clap.specs.Words.{first_value, found_of, rows_of}
use Rattle.clap.proofs.WalkLemmas.{first_value-rows}
use Rattle.zk_command.proofs.CommandLines.{no_path}
use Rattle.zk_command.proofs.choice.story_of.Goals as goal

pub returns-clause-says : goal.returns-clause-says
returns-clause-says c =
    let found = found_of c.args.matches.now in
    let text : first_value found (codes "STORY") ≡ Some c.in-Some.story.now = search rules in
    sym (first_value-rows found (codes "STORY")) ∙ text

pub returns-in_default-clause-says_none : goal.returns-in_default-clause-says_none
returns-in_default-clause-says_none c =
    let found = found_of c.args.matches.now in
    let text : first_value found (codes "STORY") ≡ None = search rules in
    no_path (rows_of found) (sym (first_value-rows found (codes "STORY")) ∙ text)
